-- All packets of a sender's message make it whole, with that message.
use Rattle.std.proofs.Common.{◌≡◌, ℕ, ◌+◌, ◌-◌, ◌*◌, ◌<◌, List, length, get_or, take, drop, sym, ap, ◌∙◌, subst, inl, arith}
use Rattle.std.proofs.lemmas.List.FromFn.{length-map-range_with_len}
use Rattle.std.proofs.ByRecursion.{has_get_or}
use Rattle.std.proofs.lemmas.Bool.{eq-eqb, eqb-true}
use Rattle.packet.specs.Packets.{PacketValue}
use Rattle.sender.specs.Packets.{Plan, LawfulPacket, LawfulPackets, packet_at, packets_of}
use Rattle.sender.specs.Sending.{sure}
use Rattle.sender.proofs.Cuts.{one_more, quotient_low, quotient_high}
use Rattle.sender.proofs.Messages.{cut_positive, count_sure}
use Rattle.sender.proofs.Lawful.{packets_lawful}
use Rattle.collection.specs.Fragments.{FragmentValue, Whole, Message}
use Rattle.collection.specs.Sent.{Cut, Of}
use Rattle.collection.proofs.Sending.{sent_heard}
use Rattle.history.specs.Stays.{fragment_of}
use Rattle.history.specs.Orders.{AllPackets, Sendable}

module _ (p : Plan) (m : List ℕ) (s : Sendable p m) where
  -- the packets cut the message
  cut_of : Cut m p.cut (length (packets_of p m))
  cut_of =
      let L = p.cut in
      let k = sure L (length m) in
      let positive = cut_positive p s.lawful_plan in
      let some = s.some_byte in
      let e : length (packets_of p m) ≡ k + 1 = length-map-range_with_len (packet_at p m) 0 _ ∙ count_sure L (length m) positive some in
      let c : length (packets_of p m) * L ≡ k * L + L = ap (λ (i : ℕ). i * L) e ∙ one_more k L in
      let low = quotient_low (length m - 1) L in
      let high = quotient_high (length m - 1) L positive in
      record { some = omega arith; more = omega arith; most = omega arith }

  lawful : LawfulPackets p m (packets_of p m)
  lawful = packets_lawful p m s.lawful_plan s.some_byte s.fits

  packet_of : (i : ℕ) (v : PacketValue) → i < length (packets_of p m) → LawfulPacket p m (length (packets_of p m)) i v → Of m p.cut (length (packets_of p m)) (fragment_of v)
  packet_of i v l f = record {
    placed = omega (arith, f.number_is);
    body = f.body_is ∙ ap (λ (k : ℕ). take p.cut (drop (k * p.cut) m)) (sym f.number_is);
    stop = (
      λ t. ap (λ (k : ℕ). k + 1) f.number_is ∙ eqb-true (i + 1) (length (packets_of p m)) (sym f.stop_is ∙ t),
      λ e. f.stop_is ∙ eq-eqb (i + 1) (length (packets_of p m)) (sym (ap (λ (k : ℕ). k + 1) f.number_is) ∙ e),
    );
    count = inl f.count_is;
  }

  pub whole_message : (ps : List FragmentValue) → AllPackets p m ps → Whole ps × Message ps m
  whole_message ps a = sent_heard.whole m p.cut (length (packets_of p m)) ps cut_of
      (λ q i.
      let (v, (k, l, at), e) = a.only q i in
      subst (Of m p.cut (length (packets_of p m))) (sym e) (packet_of k v l (subst (LawfulPacket p m (length (packets_of p m)) k) (at v) (lawful.each k v l))))
      (λ k l.
      let d = packet_at p m 0 in
      let v = get_or (packets_of p m) k d in
      (fragment_of v, a.every v (has_get_or (packets_of p m) k d l), (lawful.each k d l).number_is))
