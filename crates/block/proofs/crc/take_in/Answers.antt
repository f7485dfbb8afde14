use Rattle.std.proofs.Common.{rules}
use Rattle.block.proofs.Lookups.{by_table}
use Rattle.block.proofs.crc.take_in.Goals as goal

pub returns : goal.returns
returns c = rw c.from-2.ensures (rw c.from.ensures (by_table c.table.result.now c.table.ensures c.args.state c.args.byte (search rules) (search rules)))
