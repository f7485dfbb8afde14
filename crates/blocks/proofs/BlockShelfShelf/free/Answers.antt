use Rattle.std.proofs.Common.{arith}
use Rattle.shelf.proofs.Counts.{count_le}
use Rattle.shelf.proofs.Listed.{listed_count}
use Rattle.block.specs.Dumps.{block_at, is_used}
use Rattle.blocks.specs.Props.{sound_of}
use Rattle.blocks.specs.Sounds.{held_used}
use Rattle.blocks.proofs.BlockShelfShelf.free.Goals as goal

pub overflow_sub-result : goal.overflow_sub-result
overflow_sub-result c =
    let x = c.args.self.now in
    let at = block_at x.memory.now in
    let listed = listed_count c.units.result.now at x.count c.units.ensures.size c.units.ensures.each is_used in
    omega (arith, c.count_used.ensures, count_le (λ i. is_used (at i)) x.count)

pub returns : goal.returns
returns c =
    let x = c.args.self.now in
    let at = block_at x.memory.now in
    let listed = listed_count c.units.result.now at x.count c.units.ensures.size c.units.ensures.each is_used in
    omega (arith, c.count_used.ensures, held_used at x.count (sound_of at x.count x.sound))
