use borrow.Rule.Slice.PartMut.{post_of}
use Rattle.std.proofs.Common.{◌≡◌, ℕ, length, take, replicate, ap, ◌∙◌, arith}
use Rattle.std.proofs.lemmas.List.{length-replicate, length-take-le, take_at}
use Rattle.block.specs.Blocks.{free_front, sealed}
use Rattle.blocks.proofs.fields.BlockUnitBLOCK_LENGTH.free.Goals as goal

pub returns : goal.returns
unfolding free_front
returns c =
    let m = c.args.block.now in
    let zeros = c.fill.new.self in
    let long : length (take 510 m) ≡ 510 = length-take-le 510 m (omega arith) in
    let are : zeros ≡ replicate 510 0 = c.fill.ensures.after (λ y e. e) ∙ ap (λ (k : ℕ). replicate k 0) long in
    c.seal.ensures ∙ ap sealed (take_at zeros (post_of 0 510 m) 510 (ap length are ∙ length-replicate {A = ℕ} 510 0) ∙ are)
