use Rattle.std.proofs.Common.{refl}
use Rattle.block.specs.Check.{shifts}
use Rattle.block.proofs.Lookups.{rule_by_test}
use Rattle.block.proofs.crc.table.Goals as goal

pub returns : goal.returns
unfolding shifts
returns c = rule_by_test _ refl
