use Rattle.std.proofs.Common.{◌∙◌, arith}
use Rattle.records.proofs.Walks.{begins_shorter, visits_further, visits_all}
use Rattle.records.proofs.walk.visit_whole.Goals as goal

pub loop-record-preserved : goal.loop-record-preserved
loop-record-preserved g c =
    let (f, fits) = c.loop-record.invariant in
    let b = c.in-Some.ensures.steps in
    let shorter = begins_shorter b in
    (visits_further f b c.in_ok-visit.ensures, omega arith)

pub returns : goal.returns
returns g c =
    let (cut, same) = c.in_default.ensures.steps in
    visits_all c.loop-record.invariant.0 cut (c.rest.ensures ∙ same)
