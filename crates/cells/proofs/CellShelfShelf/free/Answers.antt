use Rattle.std.proofs.Common.{arith}
use Rattle.shelf.proofs.Counts.{count_le}
use Rattle.shelf.proofs.Listed.{listed_count}
use Rattle.cells.specs.Cells.{is_used, cell_at}
use Rattle.cells.specs.Props.{sound_of}
use Rattle.cells.specs.Sounds.{held_used}
use Rattle.cells.proofs.CellShelfShelf.free.Goals as goal

pub overflow_sub-result : goal.overflow_sub-result
overflow_sub-result c =
    let x = c.args.self.now in
    let at = cell_at x.memory.now in
    let listed = listed_count c.cells.result.now at x.count c.cells.ensures.size c.cells.ensures.each is_used in
    omega (arith, c.count_used.ensures, count_le (λ i. is_used (at i)) x.count)

pub returns : goal.returns
returns c =
    let x = c.args.self.now in
    let at = cell_at x.memory.now in
    let listed = listed_count c.cells.result.now at x.count c.cells.ensures.size c.cells.ensures.each is_used in
    omega (arith, c.count_used.ensures, held_used at x.count (sound_of at x.count x.sound))
