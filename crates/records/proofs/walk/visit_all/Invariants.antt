use Rattle.std.proofs.Common.{◌<◌, vec_len}
use Rattle.records.proofs.Rounds.{RoundsSoFar}
use Rattle.records.proofs.walk.visit_all.Given as goal

abbrev pub invariant-loop : goal.invariant-loop
invariant-loop g l =
    RoundsSoFar g.V.Visitor.visits g.V.Visitor.pauses (g.R.Read.remaining l.fn.input) (g.R.Read.remaining l.input) l.counter l.index l.inbox l.fn.visitor l.visitor
    × (0 < vec_len l.piece)
