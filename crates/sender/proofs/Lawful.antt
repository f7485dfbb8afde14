-- The packets of a message, as a reader finds them.
use Rattle.std.proofs.lemmas.Grind.{common_steps}
use Rattle.std.proofs.Common.{◌≡◌, ℕ, zero, suc, ◌+◌, ◌-◌, ◌*◌, ◌<◌, ◌≤◌, List, ◌++◌, length, take, drop, sym, refl, ap, ◌∙◌, subst, arith}
use Rattle.std.specs.List.{flat_map}
use Rattle.std.proofs.Math.Nat.{lt-div-mul-add}
use Rattle.std.proofs.lemmas.List.FromFn.{length-map-range_with_len, get_or-map-range_with_len}
use Rattle.std.proofs.lemmas.List.{take_all, take-take, drop-take, drop-drop, take-append-drop}
use Rattle.wire.specs.Limits.{max_packets}
use Rattle.packet.specs.Packets.{PacketValue, InRange}
use Rattle.packet.proofs.Encodings.{reads_back}
use Rattle.sender.specs.Packets.{Plan, LawfulPlan, packet_count, packet_at, packets_from, packets_of, LawfulPacket, LawfulPackets, PacketsLawful}
use Rattle.sender.specs.Sending.{sure}
use Rattle.sender.proofs.Buffers.{encoded}
use Rattle.sender.proofs.Messages.{cut_positive}

-- cuts that follow one another, joined
bodies_join : (p : Plan) (m : List ℕ) (a n : ℕ) → flat_map (λ v. v.body) (packets_from p m a n) ≡ take (n * p.cut) (drop (a * p.cut) m)
unfolding packet_at
bodies_join p m a zero = let z : 0 * p.cut ≡ 0 = omega arith in sym (ap (λ i. take i (drop (a * p.cut) m)) z)
bodies_join p m a (suc n) =
    let L = p.cut in
    let xs = drop (a * L) m in
    let next : drop ((a + 1) * L) m ≡ drop L xs = ap (λ i. drop i m) (let o : (a + 1) * L ≡ a * L + L = omega arith in o) ∙ sym (drop-drop L (a * L) m) in
    let s : suc n ≡ n + 1 = omega arith in
    let len : L + n * L ≡ suc n * L = omega arith ∙ ap (λ i. i * L) (sym s) in
    ap (λ y. take L xs ++ y) (bodies_join p m (a + 1) n ∙ ap (take (n * L)) next)
    ∙ (ap (λ y. y ++ take (n * L) (drop L xs)) (sym (take-take L (L + n * L) xs (omega arith)))
    ∙ (ap (λ y. take L (take (L + n * L) xs) ++ y) (sym (drop-take L (n * L) xs))
    ∙ (take-append-drop L (take (L + n * L) xs) ∙ ap (λ i. take i xs) len)))

module _ (p : Plan) (m : List ℕ) (h : LawfulPlan p) (some : 0 < length m) (fits : length m ≤ max_packets * p.cut) where
  count_is : packet_count p.cut (length m) ≡ sure p.cut (length m) + 1
  count_is = grind (arith, common_steps)

  few : packet_count p.cut (length m) ≤ max_packets
  few = grind (arith, common_steps)

  packet_in_range : (i : ℕ) → i < packet_count p.cut (length m) → InRange (packet_at p m i)
  unfolding packet_at
  packet_in_range i l = grind (arith, common_steps)

  packet_lawful : (i : ℕ) → i < packet_count p.cut (length m) → LawfulPacket p m (packet_count p.cut (length m)) i (packet_at p m i)
  unfolding packet_at
  packet_lawful i l =
      let e = encoded (packet_at p m i) (packet_in_range i l) in
      record {
        accepted = e;
        reads_back = reads_back e;
        body_is = refl;
        number_is = refl;
        id_is = refl;
        order_is = refl;
        count_is = refl;
        stop_is = refl;
      }

  pub lawful_packets : LawfulPackets p m (packets_of p m)
  lawful_packets =
      let n = packet_count p.cut (length m) in
      let l = length-map-range_with_len (packet_at p m) 0 n in
      let f = few in
      let hi = lt-div-mul-add {a = length m - 1} (cut_positive p h) in
      let e = ap (λ i. i * p.cut) count_is in
      let all : length m ≤ n * p.cut = omega arith in
      record {
        few = omega arith;
        each = λ i d k.
            let P : ℕ → Type 0 = λ c. LawfulPacket p m c i (packet_at p m i) in
            let Q : PacketValue → Type 0 = λ v. LawfulPacket p m (length (packets_of p m)) i v in
            subst Q (sym (get_or-map-range_with_len (packet_at p m) 0 n i i d (omega arith) (omega arith))) (subst P (sym l) (packet_lawful i (omega arith)));
        bodies_join = let z : 0 * p.cut ≡ 0 = omega arith in bodies_join p m 0 n ∙ (ap (λ i. take (n * p.cut) (drop i m)) z ∙ take_all (n * p.cut) m all);
      }

pub packets_lawful : PacketsLawful
packets_lawful p m h some fits = lawful_packets p m h some fits
