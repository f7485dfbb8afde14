use Rattle.std.proofs.Common.{◌≡◌}
use Rattle.receiver.specs.Tables.{seen}
use Rattle.receiver.proofs.Ticks.{Aged}
use Rattle.receiver.proofs.receiver.Receiver.tick.Given as goal

abbrev pub invariant-loop-i : goal.invariant-loop-i
invariant-loop-i g l = record {
  aged : Aged l.initial.self.patience l.i l.initial.self.slots (g.S.Shelf.piece l.initial.self.shelf) l.self.slots (g.S.Shelf.piece l.self.shelf);
  same_terms : (seen g.S.Shelf l.self).terms ≡ (seen g.S.Shelf l.initial.self).terms;
  same_lent : (seen g.S.Shelf l.self).lent ≡ (seen g.S.Shelf l.initial.self).lent;
  same_count : l.self.refused ≡ l.initial.self.refused;
}
