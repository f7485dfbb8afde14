use Rattle.std.proofs.Common.{refl, rules}
use Rattle.block.specs.Check.{shifts, check_of}
use Rattle.block.proofs.crc.check.Goals as goal

pub returns-clause-published : goal.returns-clause-published
unfolding shifts check_of
returns-clause-published c = refl

pub returns-clause-answer : goal.returns-clause-answer
unfolding check_of
returns-clause-answer c = search rules
