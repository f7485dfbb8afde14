-- A stretch of a list, element by element.
use Rattle.std.proofs.Common.{◌≡◌, ℕ, zero, suc, ◌+◌, ◌<◌, ◌≤◌, List, [], ◌∷◌, ◌++◌, length, get_or, take, drop, sym, refl, ap, ◌∙◌, arith}
use Rattle.std.proofs.lemmas.List.{take-append-drop, drop-drop, drop_more}

-- the n elements from k on, written out
abbrev pub elements : ℕ → ℕ → List ℕ → List ℕ
elements zero k xs = []
elements (suc n) k xs = get_or xs k 0 ∷ elements n (k + 1) xs

pub take_elements : (n k : ℕ) (xs : List ℕ) → k + n ≤ length xs → take n (drop k xs) ≡ elements n k xs
take_elements zero k xs h = refl
take_elements (suc n) k xs h =
    let l : k < length xs = omega arith in
    let m : (k + 1) + n ≤ length xs = omega arith in
    ap (take (suc n)) (drop_more xs k 0 l) ∙ ap (λ t. get_or xs k 0 ∷ t) (take_elements n (k + 1) xs m)

-- a list from k on is its n elements there and the list from k + n on
pub split_at : (n k : ℕ) (xs : List ℕ) → drop k xs ≡ take n (drop k xs) ++ drop (k + n) xs
split_at n k xs = sym (take-append-drop n (drop k xs)) ∙ ap (λ t. take n (drop k xs) ++ t) (drop-drop n k xs)
