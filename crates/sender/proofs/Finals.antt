-- The last packet of a message.
use Rattle.std.proofs.lemmas.Grind.{common_steps}
use Rattle.std.proofs.Common.{◌≡◌, ℕ, ◌+◌, ◌<◌, true, List, [], ◌∷◌, ◌++◌, length, drop, ap, ◌∙◌, arith}
use Rattle.packet.specs.Packets.{PacketValue, canonical, size_of}
use Rattle.sender.specs.Packets.{packet_with, packet_at, bytes_of}
use Rattle.sender.specs.Sending.{Sending, Took, Final, final_packet}
use Rattle.sender.proofs.Buffers.{bytes_one}

module _ (s : Sending) (m : List ℕ) (p : 0 < s.plan.cut) (k : Took s m) where
  module _ (h : 0 < length s.unsent) where
    pub some_message : 0 < length m
    some_message = grind (arith, common_steps)

    -- what is unsent is the last packet's body
    pub final_is : packet_with s.plan true s.sent s.unsent ≡ final_packet s.plan m
    unfolding packet_at
    final_is = grind (arith, common_steps)

    pub final : (v : PacketValue) (was new : List ℕ) (n : ℕ) → v ≡ packet_with s.plan true s.sent s.unsent
        → n ≡ size_of v → new ≡ bytes_of (v ∷ []) ++ drop (0 + n) was → Final s m was new n
    final v was new n e en b =
        let z : 0 + n ≡ n = omega arith in
        let w : v ≡ final_packet s.plan m = e ∙ final_is in
        record {
          some_message = some_message;
          size_is = en ∙ ap size_of w;
          bytes_are = b ∙ (ap (λ i. bytes_of (v ∷ []) ++ drop i was) z ∙ (ap (λ y. y ++ drop n was) (bytes_one v) ∙ ap (λ y. canonical y ++ drop n was) w));
        }
