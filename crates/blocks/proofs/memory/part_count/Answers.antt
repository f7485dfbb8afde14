use Rattle.std.proofs.Common.{arith}
use Rattle.blocks.specs.Cuts.{cost_is}
use Rattle.blocks.proofs.memory.part_count.Goals as goal

pub returns : goal.returns
returns c = omega (arith, c.div_ceil.ensures, cost_is c.args.length)
