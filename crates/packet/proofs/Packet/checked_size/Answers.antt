use Rattle.std.proofs.Common.{⊎_elim, arith, rules}
use Rattle.std.proofs.lemmas.Bool.Decides.{not_from_Decides}
use Rattle.packet.specs.Packets.{shown, canonical}
use Rattle.packet.proofs.Flaws.{ValueTest, pass_none, refused}
use Rattle.packet.proofs.Values.{long_flaw, passed_head, passed_id, passed_body, no_id_flaw, long_id_flaw, no_body_flaw, number_flaw}
use Rattle.packet.proofs.Packet.checked_size.Goals as goal

pub returns-then-id_length-gt-MAX_DATAGRAM : goal.returns-then-id_length-gt-MAX_DATAGRAM
returns-then-id_length-gt-MAX_DATAGRAM c =
    let v = shown c.args.self.now in
    refused (canonical v) c.refusal.ensures (pass_none (canonical v)) (long_flaw v (⊎_elim (λ h. omega arith) (λ h. omega arith) c.then-id_length-gt-MAX_DATAGRAM.either))

pub returns-then-size-gt-MAX_DATAGRAM : goal.returns-then-size-gt-MAX_DATAGRAM
returns-then-size-gt-MAX_DATAGRAM c =
    let v = shown c.args.self.now in
    refused (canonical v) c.refusal-then-size-gt-MAX_DATAGRAM.ensures (pass_none (canonical v)) (long_flaw v (omega arith))

pub returns-then-id_length-eq0 : goal.returns-then-id_length-eq0
returns-then-id_length-eq0 c =
    let v = shown c.args.self.now in
    let s : ValueTest v 1 = (search rules, search rules, search rules) in
    refused (canonical v) c.refusal-then-id_length-eq0.ensures (passed_head v s)
    (⊎_elim (λ h. no_id_flaw v s h) (λ h. long_id_flaw v s h.1) c.then-id_length-eq0.either)

pub returns-then-body_length-eq0 : goal.returns-then-body_length-eq0
returns-then-body_length-eq0 c =
    let v = shown c.args.self.now in
    let s : ValueTest v 1 = (search rules, search rules, search rules) in
    refused (canonical v) c.refusal-then-body_length-eq0.ensures (passed_id v s (omega arith, omega arith)) (no_body_flaw v s (omega arith))

pub returns-then-not-numbered : goal.returns-then-not-numbered
returns-then-not-numbered c =
    let v = shown c.args.self.now in
    let s : ValueTest v 1 = (search rules, search rules, search rules) in
    refused (canonical v) c.refusal-then-not-numbered.ensures (passed_body v s (omega arith, omega arith) (omega arith))
    (number_flaw v s (not_from_Decides _ c.numbered.ensures c.if-not-numbered.true))
