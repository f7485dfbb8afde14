use Rattle.std.proofs.Common.{◌≡◌, length}
use Rattle.shelf.specs.Memories.{unit_at, Cleared}
use Rattle.shelf.proofs.units.free_slot.Given as goal

abbrev pub invariant-loop-i : goal.invariant-loop-i
invariant-loop-i g l = record {
  cleared : Cleared g.U.Unit.in_slot g.U.Unit.Freed (unit_at g.row.N l.initial.memory) l.slot l.i (unit_at g.row.N l.memory);
  size : length l.memory ≡ length l.initial.memory;
}
