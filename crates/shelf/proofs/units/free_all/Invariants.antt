use Rattle.std.proofs.Common.{◌≡◌, ℕ, ◌<◌, ◌≤◌, length}
use Rattle.shelf.specs.Memories.{unit_at}
use Rattle.shelf.proofs.units.free_all.Given as goal

abbrev pub invariant-loop-index : goal.invariant-loop-index
invariant-loop-index g l = record {
  freed : (k : ℕ) → k < l.index → g.U.Unit.Freed (unit_at g.row.N l.memory k);
  later : (k : ℕ) → l.index ≤ k → unit_at g.row.N l.memory k ≡ unit_at g.row.N l.initial.memory k;
  size : length l.memory ≡ length l.initial.memory;
}
