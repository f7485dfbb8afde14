use Rattle.std.proofs.Common.{◌≡◌, ◌≤◌, ◌++◌, length, drop}
use Rattle.collection.specs.Fragments.{joined}
use Rattle.receiver.proofs.steps.join.Given as goal

abbrev pub invariant-loop-number : goal.invariant-loop-number
invariant-loop-number g l = (l.at ≤ length l.buffer)
    × (length (joined (g.S.Shelf.piece l.shelf l.k) l.count) ≤ length l.initial.buffer
    → (l.at ≡ length (joined (g.S.Shelf.piece l.shelf l.k) l.number))
    × (l.buffer ≡ joined (g.S.Shelf.piece l.shelf l.k) l.number ++ drop l.at l.initial.buffer))
