use Rattle.std.proofs.Common.{◌+◌, ◌≤◌, arith}
use Rattle.collection.specs.Fragments.{PastStop}
use Rattle.collection.specs.Kept.{shown}
use Rattle.collection.proofs.Hearing.{alike_in}
use Rattle.collection.proofs.summary.Summary.past_new.Goals as goal

pub returns-then-packet : goal.returns-then-packet
returns-then-packet c = λ ps piece o.
    alike_in ps (λ a. c.args.packet.number + 1 ≤ a.number) (PastStop (shown c.args.packet)) c.reaches.result
    (λ a h. (c.if-packet.true, omega arith)) (λ a h. omega (arith, h.1)) (c.reaches.ensures ps piece o)
