-- Numbers and cuts of a list.
use Rattle.std.proofs.lemmas.Grind.{common_steps}
use Rattle.std.proofs.Common.{◌≡◌, ℕ, ◌+◌, ◌-◌, ◌*◌, ◌/◌, ◌<◌, ◌≤◌, List, ◌++◌, length, take, drop, sym, ap, ◌∙◌, arith}
use Rattle.std.proofs.lemmas.List.{drop-drop, drop-take, take-take, drop_at}

pub one_more : (j L : ℕ) → (j + 1) * L ≡ j * L + L
one_more j L = grind (arith, common_steps)

pub within_more : (j n L R : ℕ) → j < n → n * L ≤ R → (j + 1) * L ≤ R
within_more j n L R h r = grind (arith, common_steps)

-- a quotient, by its bounds
pub quotient_low : (a L : ℕ) → (a / L) * L ≤ a
quotient_low a L = grind (arith, common_steps)

pub quotient_high : (a L : ℕ) → 0 < L → a < (a / L) * L + L
quotient_high a L p = grind (arith, common_steps)

-- the cut after the j-th of `rest`, which follows `first`
pub later_cut : (first rest : List ℕ) (j L : ℕ) → L ≡ length first → drop (j * L) rest ≡ drop ((j + 1) * L) (first ++ rest)
later_cut first rest j L e =
    let n : (j + 1) * L ≡ L + j * L = omega arith in
    sym (ap (λ i. drop i (first ++ rest)) n ∙ (sym (drop-drop (j * L) L (first ++ rest)) ∙ ap (drop (j * L)) (drop_at first rest L (sym e))))

-- a cut of the first n cuts
pub cut_within : (j n L : ℕ) (xs : List ℕ) → j < n → take L (drop (j * L) (take (n * L) xs)) ≡ take L (drop (j * L) xs)
cut_within j n L xs h =
    let w = within_more j n L (n * L) h (omega arith) in
    let m : n * L ≡ j * L + (n * L - j * L) = omega arith in
    ap (λ i. take L (drop (j * L) (take i xs))) m ∙ (ap (take L) (drop-take (j * L) (n * L - j * L) xs) ∙ take-take L (n * L - j * L) (drop (j * L) xs) (omega arith))
