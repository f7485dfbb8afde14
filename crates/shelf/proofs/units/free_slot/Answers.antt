use Rattle.std.proofs.Common.{◌≡◌, ℕ, ◌/◌, ◌<◌, length, sym, ap, ◌∙◌, subst, arith}
use Rattle.shelf.specs.Memories.{nth_unit, unit_at}
use Rattle.shelf.proofs.Places.{unit_is}
use Rattle.shelf.proofs.Clearings.{clear_more, clear_skip}
use Rattle.shelf.proofs.units.free_slot.Goals as goal
use Rattle.shelf.proofs.units.free_slot.Goals.{then-is_in_slot, else-is_in_slot}

pub loop-i-preserved : goal.loop-i-preserved
loop-i-preserved g c =
    let n = g.row.N in
    let test = g.U.Unit.in_slot in
    let b = unit_at n c.args.memory.now in
    let v = c.loop-i.memory in
    let i = c.loop-i.i in
    let slot = c.args.slot in
    let inv = c.loop-i.invariant in
    let less : i < length c.args.memory.now / n = omega arith in
    let here = unit_is n (length v / n) i v (subst (λ (k : ℕ). i < k / n) (sym inv.size) less) in
    let said : test (b i) slot ≡ c.is_in_slot.result =
    ap (λ x. test x slot) (sym (inv.cleared.later i (omega arith)) ∙ sym here) ∙ (ap (λ us. test (nth_unit us i) slot) (sym c.as_chunks.ensures.front) ∙ sym c.is_in_slot.ensures) in
    elim c.if-is_in_slot.branch [
      | then-is_in_slot w ↦
          let one = w.free_at.ensures.one in
          let more = clear_more test g.U.Unit.Freed b slot i (unit_at n v) inv.cleared (unit_at n w.free_at.new.memory) (said ∙ w.if-is_in_slot.true) w.free_at.ensures.freed one.others in
          rw w.memory-is record { cleared = more; size = one.size ∙ inv.size }
      | else-is_in_slot w ↦
          rw w.memory-is record { cleared = clear_skip test g.U.Unit.Freed b slot i (unit_at n v) inv.cleared (said ∙ w.if-is_in_slot.false); size = inv.size }
    ]
