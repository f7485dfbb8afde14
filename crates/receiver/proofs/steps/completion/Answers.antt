use Rattle.std.proofs.Common.{sym, ◌∙◌}
use Rattle.std.proofs.lemmas.Bool.{both_ways}
use Rattle.receiver.proofs.Slots.{extent_decides}
use Rattle.receiver.proofs.steps.completion.Goals as goal

pub returns-then-is_some : goal.returns-then-is_some
returns-then-is_some c = λ ps piece o. (extent_decides c.whole.result ps piece (c.whole.ensures ps piece o)).0 (sym c.is_some.ensures ∙ c.if-is_some.true)

pub returns-else-is_some : goal.returns-else-is_some
returns-else-is_some c = λ ps piece o w. both_ways c.is_some.result c.if-is_some.false (c.is_some.ensures ∙ (extent_decides c.whole.result ps piece (c.whole.ensures ps piece o)).1 w)
