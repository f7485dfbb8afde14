use Rattle.std.proofs.Common.{◌*◌, ◌/◌, length, take, ap, ◌∙◌, arith}
use Rattle.std.proofs.lemmas.List.{length-take-le}
use Rattle.shelf.specs.Memories.{nth_unit}
use Rattle.shelf.proofs.Places.{chunk_unit}
use Rattle.cells.specs.Limits.{cell_length}
use Rattle.cells.proofs.CellShelf.cells.Goals as goal

pub returns-clause-each : goal.returns-clause-each
returns-clause-each c i l =
    let x = c.args.self.now in
    let m = x.memory.now in
    let size = length-take-le (x.count * cell_length) m x.fits in
    ap (λ us. nth_unit us i) c.as_chunks.ensures.front ∙ chunk_unit cell_length x.count m (length (take (x.count * cell_length) m) / cell_length) i (omega (arith, size)) l
