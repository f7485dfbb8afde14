use Rattle.std.proofs.Common.{◌*◌, ◌≤◌, length, arith, rules}
use Rattle.shelf.proofs.Clearings.{front_size, front_rest, freed_front}
use Rattle.cells.specs.Limits.{cell_length, some_byte}
use Rattle.cells.specs.Cells.{Freed, cell_at}
use Rattle.cells.proofs.Clearings.{free_pieces, free_sound}
use Rattle.cells.proofs.CellShelf.new.Goals as goal

pub invariant_of-result : goal.invariant_of-result
invariant_of-result c =
    let m = c.args.memory.now in
    let ys = c.free_all.new.memory in
    let count = c.min-count.result in
    let fits : count * cell_length ≤ length m = omega (arith, c.min-count.ensures) in
    let size = front_size cell_length count some_byte m ys fits c.free_all.ensures.size in
    let free = freed_front cell_length count some_byte m ys fits c.free_all.ensures.size Freed c.free_all.ensures.freed in
    record { fits = omega arith; sound = ∣ free_sound (cell_at _) count free ∣₁ }

pub returns-clause-made : goal.returns-clause-made
returns-clause-made c =
    let m = c.args.memory.now in
    let ys = c.free_all.new.memory in
    let count = c.min-count.result in
    let fits : count * cell_length ≤ length m = omega (arith, c.min-count.ensures) in
    let free = freed_front cell_length count some_byte m ys fits c.free_all.ensures.size Freed c.free_all.ensures.freed in
    record {
      count_is = search rules;
      empty = free_pieces (cell_at _) count free;
      rest_stays = front_rest cell_length count some_byte m ys fits c.free_all.ensures.size;
    }
