use Rattle.std.proofs.Common.{ℕ, List, [], ◌∷◌, ◌++◌, get_or, take, ap, ◌∙◌}
use Rattle.wire.specs.declared.order.ByteOrder.TheVariants.{Big}
use Rattle.wire.specs.Numbers.{digits}
use Rattle.blocks.proofs.Fills.{check_written}
use Rattle.blocks.proofs.fields.seal.Goals as goal

pub returns : goal.returns
returns c =
    let m = c.args.block.now in
    let r = c.encode.result in
    check_written m (get_or r 0 0) (get_or r 1 0) c.requires
    ∙ ap (λ t. take 510 m ++ t)
    (ap (λ (xs : List ℕ). get_or xs 0 0 ∷ get_or xs 1 0 ∷ []) c.encode.ensures ∙ ap (digits Big 2) c.check.ensures.answer)
