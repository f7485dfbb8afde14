use Rattle.std.proofs.Common.{List, None, Err, sym, refl, ap, ◌∙◌, subst}
use Rattle.std.proofs.lemmas.List.{get_or_default}
use Rattle.std.proofs.lemmas.Result.{err_from_is_err_and}
use Rattle.shelf.specs.Units.{Tidy}
use Rattle.packet.specs.Packets.{shown}
use Rattle.collection.specs.Fragments.{FragmentValue}
use Rattle.collection.specs.Kept.{shown as fragment-shown}
use Rattle.history.specs.Stays.{Terms, Carries, fragment_of}
use Rattle.receiver.specs.Slots.{Slot, at}
use Rattle.receiver.specs.Parts.{Begun}
use Rattle.receiver.specs.Replies.{arrival_reply}
use Rattle.receiver.specs.Tables.{Seen, KeepsSlots, seen}
use Rattle.receiver.proofs.Hearings.{refused_so}
use Rattle.receiver.proofs.Changes.{explains_as}
use Rattle.receiver.proofs.Arrivals.{arrival_due, arrive_step, arrive_keeps, crowd_due, crowd_step, unread_due, unread_step, uncounted_still}
use Rattle.receiver.proofs.receiver.Receiver.hear.Goals as goal

pub returns-in_err-packet : goal.returns-in_err-packet
returns-in_err-packet g c =
    let p = err_from_is_err_and c.from_residual.result c.from_residual.ensures.1 in
    let s : Seen = seen g.S.Shelf c.args.self.now in
    let bad = c.in_err-packet.ensures.answer in
    let r = arrival_reply c.from_residual.result in
    let is = ap arrival_reply (p.1 ∙ ap Err p.2) in
    let xs = c.args.datagram.now in
    uncounted_still s xs r (λ h ex. unread_due h s ex xs _ bad.0 bad.1 r is) (λ h ex n e. unread_step h s ex xs _ bad.0 bad.1 r is n e s.lent)

pub returns-in_default : goal.returns-in_default
returns-in_default g c =
    let s : Seen = seen g.S.Shelf c.args.self.now in
    let p = c.in_ok-packet.packet in
    let xs = c.args.datagram.now in
    let carries : Carries xs p.id.now (fragment_of (shown p)) = record { value = shown p; encodes = c.in_ok-packet.ensures.answer; id_is = refl; says = refl } in
    let is = refused_so 21 c.refusal.result c.refusal.ensures in
    let q = fragment_of (shown p) in
    uncounted_still s xs _ (λ h ex. crowd_due h s ex xs p.id.now q carries c.in_default.ensures _ is) (λ h ex n e. crowd_step h s ex xs p.id.now q carries c.in_default.ensures _ is n e s.lent)

pub returns : goal.returns
returns g c =
    let S = g.S.Shelf in
    let s : Seen = seen S c.args.self.now in
    let e : Seen = seen S c.take_in.new.self in
    let p = c.in_ok-packet.packet in
    let xs = c.args.datagram.now in
    let id = p.id.now in
    let k = c.in-Some.k in
    let home = c.in-Some.ensures in
    let q : FragmentValue = fragment-shown c.fragment_of.result in
    let carries : Carries xs id q = record { value = shown p; encodes = c.in_ok-packet.ensures.answer; id_is = refl; says = sym c.fragment_of.ensures } in
    let t = c.take_in.ensures in
    let r = arrival_reply c.take_in.result in
    let begun : Begun (at s.slots k) id c.begun-stay.result = subst (λ (x : Slot). Begun x id c.begun-stay.result) (get_or_default s.slots k _ None home.0) c.begun-stay.ensures in
    let tidy : Tidy s.terms.unit s.terms.capacity e.piece = subst (λ (x : Terms). Tidy x.unit x.capacity e.piece) t.only_here.same_terms (g.met.S.Shelf.tidy c.take_in.new.self.shelf) in
    record {
      same_terms = t.only_here.same_terms;
      same_lent = t.only_here.same_lent;
      same_count = t.only_here.same_count;
      keeps_slots = λ h ex. subst (λ (x : List Slot). KeepsSlots s.slots x) (sym t.only_here.slots) (arrive_keeps h s ex xs id q carries k home r c.begun-stay.result t.new e.piece begun t.heeds t.only_here.others tidy);
      due = λ h ex. arrival_due h s ex xs id q carries k home r c.begun-stay.result t.new e.piece begun t.heeds t.only_here.others tidy;
      explained = λ h ex n is. explains_as _ _ _ t.only_here.same_terms t.only_here.slots refl refl (arrive_step h s ex xs id q carries k home r c.begun-stay.result t.new e.piece begun t.heeds t.only_here.others tidy n is s.lent);
    }
