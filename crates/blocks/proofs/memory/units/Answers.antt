use Rattle.std.proofs.Common.{◌*◌, ◌/◌, length, take, ap, ◌∙◌, arith}
use Rattle.std.proofs.lemmas.List.{length-take-le}
use Rattle.shelf.specs.Memories.{nth_unit}
use Rattle.shelf.proofs.Places.{chunk_unit}
use Rattle.blocks.proofs.Places.{block_unit}
use Rattle.blocks.proofs.memory.units.Goals as goal

pub returns-clause-each : goal.returns-clause-each
returns-clause-each c i l =
    let m = c.args.memory.now in
    let k = c.args.count * 512 in
    let size = length-take-le k m c.requires in
    ap (λ us. nth_unit us i) c.as_chunks.ensures.front ∙ (chunk_unit 512 c.args.count m (length (take k m) / 512) i (omega (arith, size)) l ∙ block_unit m i)
