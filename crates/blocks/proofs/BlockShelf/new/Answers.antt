use Rattle.std.proofs.Common.{◌*◌, ◌≤◌, length, arith, rules}
use Rattle.shelf.proofs.Clearings.{front_size, front_rest}
use Rattle.block.specs.Dumps.{block_at}
use Rattle.blocks.specs.Limits.{some_byte}
use Rattle.blocks.proofs.Places.{freed_blocks}
use Rattle.blocks.proofs.Clearings.{free_pieces, free_sound}
use Rattle.blocks.proofs.BlockShelf.new.Goals as goal

pub invariant_of-result : goal.invariant_of-result
invariant_of-result c =
    let m = c.args.memory.now in
    let ys = c.free_all.new.memory in
    let count = c.min-count.result in
    let fits : count * 512 ≤ length m = omega (arith, c.min-count.ensures) in
    let size = front_size 512 count some_byte m ys fits c.free_all.ensures.size in
    let free = freed_blocks count m ys fits c.free_all.ensures.size c.free_all.ensures.freed in
    record { fits = omega arith; sound = ∣ free_sound (block_at _) count free ∣₁ }

pub returns-clause-made : goal.returns-clause-made
returns-clause-made c =
    let m = c.args.memory.now in
    let ys = c.free_all.new.memory in
    let count = c.min-count.result in
    let fits : count * 512 ≤ length m = omega (arith, c.min-count.ensures) in
    let free = freed_blocks count m ys fits c.free_all.ensures.size c.free_all.ensures.freed in
    record {
      count_is = search rules;
      freed = free;
      empty = free_pieces (block_at _) count free;
      rest_stays = front_rest 512 count some_byte m ys fits c.free_all.ensures.size;
    }
