use Rattle.std.proofs.Common.{arith}
use Rattle.std.proofs.lemmas.Grind.{common_steps}
use Rattle.sender.specs.Ids.{id_of}
use Rattle.sender.proofs.ids.id_of.Goals as goal

pub returns : goal.returns
unfolding id_of
returns c = grind (arith, common_steps)
