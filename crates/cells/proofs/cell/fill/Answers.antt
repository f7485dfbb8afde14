use Rattle.std.proofs.Common.{ℕ, get_or, ap, rules}
use Rattle.cells.proofs.Fills.{filled}
use Rattle.cells.proofs.cell.fill.Goals as goal

pub returns : goal.returns
returns c =
    let bytes = c.args.bytes.now in
    let digit : ℕ → ℕ = λ k. get_or c.encode.result k 0 in
    filled bytes c.copy_from_slice.new.self c.args.place.slot c.args.place.number (digit 0) (digit 1) c.requires.short (search rules)
    (ap (λ xs. get_or xs 0 0) c.encode.ensures) (ap (λ xs. get_or xs 1 0) c.encode.ensures) c.args.cell.now c.requires.long
