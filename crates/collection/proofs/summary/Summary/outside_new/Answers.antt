use Rattle.std.proofs.Common.{ℕ, Option, unwrap_or, ap, arith}
use Rattle.std.proofs.lemmas.Bool.{false≢true}
use Rattle.collection.specs.Kept.{shown}
use Rattle.collection.proofs.Hearing.{outside_told}
use Rattle.collection.proofs.summary.Summary.outside_new.Goals as goal

pub returns-in_default : goal.returns-in_default
returns-in_default c = λ ps piece o.
    (λ t. absurd (false≢true t), λ a. absurd (omega (arith, a.2.0, ap (λ (o : Option ℕ). unwrap_or o 0) c.in_default.is)))

pub returns : goal.returns
returns c =
    outside_told c.args.self (shown c.args.packet) c.in-Some.count c.reaches.result c.stops_below.result c.goes_on_at.result
    (omega (arith, c.args.packet.within c.in-Some.count c.in-Some.is)) (ap (λ (o : Option ℕ). unwrap_or o 0) c.in-Some.is)
    c.reaches.ensures c.stops_below.ensures c.goes_on_at.ensures
