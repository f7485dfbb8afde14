use Rattle.std.proofs.Common.{◌≡◌, ℕ, Bool, [], sym, ap, ◌∙◌, add-one, arith}
use Rattle.std.proofs.lemmas.List.{get_or_default}
use Rattle.shelf.specs.Memories.{nth_unit}
use Rattle.shelf.proofs.Counts.{count_zero, count_yes, count_no}
use Rattle.shelf.proofs.units.count_used.Goals as goal
use Rattle.shelf.proofs.units.count_used.Goals.{then-is_used, else-is_used}

pub loop-unit-init : goal.loop-unit-init
loop-unit-init g c = (omega arith, sym (count_zero (λ i. g.U.Unit.used (nth_unit c.args.units.now i))))

pub loop-unit-preserved : goal.loop-unit-preserved
loop-unit-preserved g c =
    let i = c.loop-unit.unit-index in
    let test : ℕ → Bool = λ k. g.U.Unit.used (nth_unit c.args.units.now k) in
    let here = get_or_default c.args.units.now i [] c.unit-item.result c.loop-unit-test.true ∙ sym c.unit-item.is in
    let said : test i ≡ c.is_used.result = ap g.U.Unit.used here ∙ sym c.is_used.ensures in
    elim c.if-is_used.branch [
      | then-is_used w ↦ (omega (arith, w.used-is), simp add-one (omega (arith, w.used-is, count_yes test i (said ∙ w.if-is_used.true))))
      | else-is_used w ↦ (omega (arith, w.used-is), simp add-one (omega (arith, w.used-is, count_no test i (said ∙ w.if-is_used.false))))
    ]
