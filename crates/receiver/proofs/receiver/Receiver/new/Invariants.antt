use Rattle.std.proofs.Common.{ℕ, ◌<◌}
use Rattle.receiver.specs.Slots.{Bare}
use Rattle.receiver.specs.Parts.{SameShelf, held}
use Rattle.receiver.proofs.receiver.Receiver.new.Given as goal

abbrev pub invariant-loop-slot : goal.invariant-loop-slot
invariant-loop-slot g l = ((s : ℕ) → s < l.slot → Bare (g.S.Shelf.piece l.shelf s)) × SameShelf (held g.S.Shelf l.initial.shelf) (held g.S.Shelf l.shelf)
