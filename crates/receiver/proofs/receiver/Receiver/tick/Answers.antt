use Rattle.std.proofs.Common.{◌≡◌, ℕ, length, refl, ◌∙◌, subst, arith, rules}
use Rattle.wire.specs.Limits.{max_slots}
use Rattle.shelf.specs.Units.{Tidy}
use Rattle.history.specs.Stays.{Terms}
use Rattle.receiver.specs.Tables.{Seen, seen}
use Rattle.receiver.proofs.Changes.{explains_as}
use Rattle.receiver.proofs.Ticks.{Aged, aged_more, tick_step, tick_keeps}
use Rattle.receiver.proofs.receiver.Receiver.tick.Goals as goal

pub loop-i-preserved : goal.loop-i-preserved
loop-i-preserved g c =
    let s : Seen = seen g.S.Shelf c.args.self.now in
    let m : Seen = seen g.S.Shelf c.loop-i.self in
    let inv = c.loop-i.invariant in
    let one = c.age.ensures in
    let eight : length m.slots ≡ 8 = search rules in
    record {
      aged = aged_more c.loop-i.i s m (seen g.S.Shelf c.age.new.self) inv.aged inv.same_terms (omega (arith, eight, c.loop-i-test.true)) one;
      same_terms = one.only_here.same_terms ∙ inv.same_terms;
      same_lent = one.only_here.same_lent ∙ inv.same_lent;
      same_count = one.only_here.same_count ∙ inv.same_count;
    }

pub returns : goal.returns
returns g c =
    let s : Seen = seen g.S.Shelf c.args.self.now in
    let m : Seen = seen g.S.Shelf c.loop-i.self in
    let inv = c.loop-i.invariant in
    let e : c.loop-i.i ≡ max_slots = omega arith in
    let all : Aged s.terms.patience max_slots s.slots s.piece m.slots m.piece = subst (λ (n : ℕ). Aged s.terms.patience n s.slots s.piece m.slots m.piece) e inv.aged in
    let tidy : Tidy s.terms.unit s.terms.capacity m.piece = subst (λ (x : Terms). Tidy x.unit x.capacity m.piece) inv.same_terms (g.met.S.Shelf.tidy c.loop-i.self.shelf) in
    record {
      same_terms = inv.same_terms;
      same_lent = inv.same_lent;
      due = λ h ex. refl;
      keeps_slots = λ h ex. tick_keeps h s ex m.slots m.piece all tidy;
      explained = λ h ex. explains_as _ _ _ inv.same_terms refl refl inv.same_count (tick_step h s ex m.slots m.piece all tidy s.lent);
    }
