use Rattle.std.proofs.Common.{sym, ◌∙◌, subst, ⊎_elim, arith, rules}
use Rattle.std.proofs.lemmas.Bool.Decides.{not_from_Decides}
use Rattle.packet.specs.Packets.{PacketValue, Encodes}
use Rattle.packet.specs.Datagrams.{too_short, too_long, other_magic, other_version, upper_flags, no_id, long_id, id_past_end, no_body, other_body, misnumbered}
use Rattle.packet.proofs.Flaws.{pass_none, pass}
use Rattle.packet.proofs.Encodings.{told_by, told_encodes, same_value, one_packet}
use Rattle.packet.proofs.Readings.{refusing, Opens, opens_magic, magic_opens, header_known, numbers_known, id_part, body_part}
use Rattle.packet.proofs.Packet.read.Goals as goal

pub returns-then-datagram-lt-HEADER_LENGTH : goal.returns-then-datagram-lt-HEADER_LENGTH
returns-then-datagram-lt-HEADER_LENGTH c = record {
  answer = refusing c.args.datagram.now c.refusal.ensures (pass_none _)
      (⊎_elim (λ h. too_short h) (λ h. too_long h.1) c.then-datagram-lt-HEADER_LENGTH.either);
  one_packet = one_packet;
}

pub returns-in_default : goal.returns-in_default
returns-in_default c =
    let xs = c.args.datagram.now in
    let l = c.if-datagram-lt-HEADER_LENGTH.false in
    let p2 = pass xs 1 (pass_none xs) (l, c.if-datagram-gt-MAX_DATAGRAM.false) in
    let n : Opens xs → ⊥ = search rules in
    record { answer = refusing xs c.refusal-in_default.ensures p2 (other_magic (λ m. n (magic_opens xs l m))); one_packet = one_packet }

pub returns-then-version-ne-VERSION : goal.returns-then-version-ne-VERSION
returns-then-version-ne-VERSION c =
    let xs = c.args.datagram.now in
    let l = c.if-datagram-lt-HEADER_LENGTH.false in
    let p2 = pass xs 1 (pass_none xs) (l, c.if-datagram-gt-MAX_DATAGRAM.false) in
    let o : Opens xs = search rules in
    let p3 = pass xs 2 p2 (opens_magic xs l o) in
    record { answer = refusing xs c.refusal-then-version-ne-VERSION.ensures p3 (other_version c.if-version-ne-VERSION.true); one_packet = one_packet }

pub returns-then-flags-ge4 : goal.returns-then-flags-ge4
returns-then-flags-ge4 c =
    let xs = c.args.datagram.now in
    let l = c.if-datagram-lt-HEADER_LENGTH.false in
    let p2 = pass xs 1 (pass_none xs) (l, c.if-datagram-gt-MAX_DATAGRAM.false) in
    let o : Opens xs = search rules in
    let p3 = pass xs 2 p2 (opens_magic xs l o) in
    let p4 = pass xs 3 p3 c.if-version-ne-VERSION.false in
    record { answer = refusing xs c.refusal-then-flags-ge4.ensures p4 (upper_flags c.if-flags-ge4.true); one_packet = one_packet }

pub returns-then-id_length-eq0 : goal.returns-then-id_length-eq0
returns-then-id_length-eq0 c =
    let xs = c.args.datagram.now in
    let h = header_known xs c.if-datagram-lt-HEADER_LENGTH.false c.if-datagram-gt-MAX_DATAGRAM.false (search rules) c.if-version-ne-VERSION.false c.if-flags-ge4.false
    c.order_of-order.ensures c.read_fields-fields.ensures c.body_start-start.ensures in
    let k = h.fields in
    let s = h.start_is in
    record {
      answer = refusing xs c.refusal-then-id_length-eq0.ensures h.passed
          (⊎_elim (λ e. no_id (sym k.id_is ∙ e)) (⊎_elim (λ e. long_id (rw k.id_is at e.1)) (λ e. id_past_end (rw s at e.2))) c.then-id_length-eq0.either);
      one_packet = one_packet;
    }

pub returns-then-fields-eq0 : goal.returns-then-fields-eq0
returns-then-fields-eq0 c =
    let xs = c.args.datagram.now in
    let h = header_known xs c.if-datagram-lt-HEADER_LENGTH.false c.if-datagram-gt-MAX_DATAGRAM.false (search rules) c.if-version-ne-VERSION.false c.if-flags-ge4.false
    c.order_of-order.ensures c.read_fields-fields.ensures c.body_start-start.ensures in
    let k = h.fields in
    let s = h.start_is in
    let ki = k.id_is in
    let kb = k.body_is in
    let p6 = pass xs 5 h.passed (omega arith, omega arith, omega arith) in
    record {
      answer = refusing xs c.refusal-then-fields-eq0.ensures p6
          (⊎_elim (λ e. no_body (omega arith)) (λ e. other_body (λ q. e.1 (omega arith))) c.then-fields-eq0.either);
      one_packet = one_packet;
    }

pub returns-then-not-numbered : goal.returns-then-not-numbered
returns-then-not-numbered c =
    let xs = c.args.datagram.now in
    let h = header_known xs c.if-datagram-lt-HEADER_LENGTH.false c.if-datagram-gt-MAX_DATAGRAM.false (search rules) c.if-version-ne-VERSION.false c.if-flags-ge4.false
    c.order_of-order.ensures c.read_fields-fields.ensures c.body_start-start.ensures in
    let k = h.fields in
    let s = h.start_is in
    let ki = k.id_is in
    let kb = k.body_is in
    let p6 = pass xs 5 h.passed (omega arith, omega arith, omega arith) in
    let p7 = pass xs 6 p6 (omega arith, omega arith) in
    let e = numbers_known k.number_is k.count_is c.stop_of-stop.ensures in
    record {
      answer = refusing xs c.refusal-then-not-numbered.ensures p7 (misnumbered (λ m. not_from_Decides _ c.numbered.ensures c.if-not-numbered.true (e.1 m)));
      one_packet = one_packet;
    }

pub returns : goal.returns
returns c =
    let xs = c.args.datagram.now in
    let h = header_known xs c.if-datagram-lt-HEADER_LENGTH.false c.if-datagram-gt-MAX_DATAGRAM.false (search rules) c.if-version-ne-VERSION.false c.if-flags-ge4.false
    c.order_of-order.ensures c.read_fields-fields.ensures c.body_start-start.ensures in
    let k = h.fields in
    let s = h.start_is in
    let ki = k.id_is in
    let kb = k.body_is in
    let p6 = pass xs 5 h.passed (omega arith, omega arith, omega arith) in
    let p7 = pass xs 6 p6 (omega arith, omega arith) in
    let e = numbers_known k.number_is k.count_is c.stop_of-stop.ensures in
    let p8 = pass xs 7 p7 (e.0 (c.numbered.ensures.0 c.if-not-numbered.false)) in
    let P : PacketValue → Type 0 = λ v. Encodes v xs in
    record {
      answer = subst P
          (sym (same_value _ (told_by xs) c.order_of-order.ensures c.stop_of-stop.ensures k.number_is k.count_is (id_part xs _ _ k.id_is) (body_part xs _ _ s)))
          (told_encodes xs (λ i. let f = c.type_inv.datagram i in omega arith) p8);
      one_packet = one_packet;
    }
