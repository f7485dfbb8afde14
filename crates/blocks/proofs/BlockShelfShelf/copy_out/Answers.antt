use Rattle.std.proofs.Common.{ℕ, ◌+◌, ◌-◌, ◌*◌, ◌<◌, ◌≤◌, List, length, sym, ◌∙◌, subst, arith, rules}
use borrow.Rule.Slice.PartMut.{put_mid}
use Rattle.shelf.proofs.Copies.{copies_fit}
use Rattle.block.specs.Dumps.{block_at}
use Rattle.blocks.specs.Parts.{piece_in}
use Rattle.blocks.specs.Props.{sound_of}
use Rattle.blocks.specs.Steps.{CopiedParts}
use Rattle.blocks.specs.Cuts.{parts_end}
use Rattle.blocks.specs.Sounds.{part_there, piece_short}
use Rattle.blocks.proofs.Copies.{copy_more, copy_all}
use Rattle.blocks.proofs.BlockShelfShelf.copy_out.Goals as goal

-- where the part stands in the buffer
within : (c : goal.After-part-part) → (c.loop-index.index * 500 + length c.part-part.result.now ≤ length c.loop-index.buffer) × (c.loop-index.index < 3)
within c =
    let x = c.args.self.now in
    let b = block_at x.memory.now in
    let sound = sound_of b x.count x.sound in
    let there = part_there b x.count sound c.args.place.slot c.args.place.number c.loop-index.index c.length-length.result
    c.part-part.result.now (omega (arith, c.part_count-index-end.ensures)) c.length-length.ensures c.part-part.ensures in
    let short = piece_short b x.count sound c.args.place.slot c.args.place.number in
    (omega (arith, c.length-length.ensures), omega arith)

pub overflow_mul-index : goal.overflow_mul-index
overflow_mul-index c = let w = within c in search rules

pub overflow_mul-index-in-loop-index : goal.overflow_mul-index-in-loop-index
overflow_mul-index-in-loop-index c = let w = within c in search rules

pub overflow_add-index : goal.overflow_add-index
overflow_add-index c = let w = within c in search rules

pub slice_bounds-copy_from_slice-end : goal.slice_bounds-copy_from_slice-end
slice_bounds-copy_from_slice-end c = let w = within c in search rules

pub loop-index-preserved : goal.loop-index-preserved
loop-index-preserved c =
    let x = c.args.self.now in
    let b = block_at x.memory.now in
    let p = piece_in b x.count c.args.place.slot c.args.place.number in
    let u = c.args.buffer.now in
    let w = c.loop-index.buffer in
    let k = c.loop-index.index in
    let part = c.part-part.result.now in
    let long = c.length-length.ensures in
    let there = part_there b x.count (sound_of b x.count x.sound) c.args.place.slot c.args.place.number k c.length-length.result part
    (omega (arith, c.part_count-index-end.ensures)) long c.part-part.ensures in
    subst (λ (y : List ℕ). CopiedParts p u (k + 1) (put_mid (k * 500) (k * 500 + length part - k * 500) w y)) (sym c.copy_from_slice.ensures.after)
    (copy_more p u w part k c.loop-index.invariant there.0 (omega arith) there.1)

pub returns : goal.returns
returns c =
    let x = c.args.self.now in
    let p = piece_in (block_at x.memory.now) x.count c.args.place.slot c.args.place.number in
    let u = c.args.buffer.now in
    let long = c.length-length.ensures in
    let room : length p ≤ length u = omega arith in
    let all : length p ≤ c.loop-index.index * 500 = let a = parts_end c.length-length.result c.loop-index.index (omega (arith, c.part_count-index-end.ensures)) in omega arith in
    let fit = copies_fit p u room in
    record {
      answer = long ∙ fit.0;
      wrote = copy_all p u c.loop-index.index c.loop-index.buffer c.loop-index.invariant all room ∙ fit.1;
    }
