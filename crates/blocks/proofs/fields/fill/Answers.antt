use Rattle.std.proofs.Common.{◌≡◌, ℕ, ◌+◌, ◌-◌, length, get_or, replicate, sym, ap, ◌∙◌, arith, rules}
use Rattle.block.specs.Blocks.{sealed}
use Rattle.blocks.proofs.Fills.{front_written}
use Rattle.blocks.proofs.fields.fill.Goals as goal

pub returns : goal.returns
returns c =
    let m = c.args.block.now in
    let bytes = c.args.part.bytes.now in
    let digit : ℕ → ℕ = λ k. get_or c.encode.result k 0 in
    let whole_digit : ℕ → ℕ = λ k. get_or c.encode-2.result k 0 in
    let zeros : c.fill.new.self ≡ replicate (510 - (8 + length bytes)) 0 =
    c.fill.ensures.after (λ y e. e) ∙ (let n : length c.fill.new.self ≡ 510 - (8 + length bytes) = search rules in ap (λ (k : ℕ). replicate k 0) (sym c.fill.ensures.len ∙ n)) in
    c.seal.ensures
    ∙ ap sealed (front_written m bytes c.copy_from_slice.new.self c.fill.new.self c.args.part.place.slot c.args.part.place.number c.args.part.index c.args.part.whole
    (digit 0) (digit 1) (whole_digit 0) (whole_digit 1) c.requires.long (omega (arith, c.requires.range.length_is)) (search rules) zeros
    (ap (λ xs. get_or xs 0 0) c.encode.ensures) (ap (λ xs. get_or xs 1 0) c.encode.ensures)
    (ap (λ xs. get_or xs 0 0) c.encode-2.ensures) (ap (λ xs. get_or xs 1 0) c.encode-2.ensures))
