use Rattle.std.proofs.Common.{◌+◌, ◌≤◌, length}
use Rattle.records.proofs.Walks.{VisitsSoFar}
use Rattle.records.proofs.walk.visit_whole.Given as goal

abbrev pub invariant-loop-record : goal.invariant-loop-record
invariant-loop-record g l =
    VisitsSoFar g.V.Visitor.visits l.waiting l.index l.fn.visitor l.count l.records l.visitor
    × (l.count + length l.records ≤ length l.waiting)

abbrev pub decreases-loop-record : goal.decreases-loop-record
decreases-loop-record g l = length l.records
