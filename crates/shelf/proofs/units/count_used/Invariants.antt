use Rattle.std.proofs.Common.{◌≡◌, ◌≤◌}
use Rattle.shelf.specs.Sums.{count_of}
use Rattle.shelf.specs.Memories.{nth_unit}
use Rattle.shelf.proofs.units.count_used.Given as goal

abbrev pub invariant-loop-unit : goal.invariant-loop-unit
invariant-loop-unit g l = (l.used ≤ l.unit-index) × (l.used ≡ count_of (λ i. g.U.Unit.used (nth_unit l.units i)) l.unit-index)
