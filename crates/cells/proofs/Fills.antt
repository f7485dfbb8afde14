-- A cell that is filled.
use borrow.Rule.Slice.PartMut.{put_mid}
use Rattle.std.proofs.Common.{◌≡◌, ℕ, ◌+◌, ◌-◌, ◌/◌, ◌%◌, ◌≤◌, List, ◌∷◌, ◌++◌, length, get_or, take, drop, set, sym, refl, ap, ◌∙◌, subst, arith}
use Rattle.std.proofs.lemmas.List.{length-append, length-drop, take-append-drop, take_at}
use Rattle.wire.proofs.Fronts.{elements, take_elements}
use Rattle.wire.specs.Limits.{max_piece}
use Rattle.cells.specs.Limits.{cell_length}
use Rattle.cells.specs.Cells.{length_in, Filled}

-- the notes, as they are written one after the other
abbrev noted : List ℕ → ℕ → ℕ → ℕ → ℕ → List ℕ
noted xs slot number high low = set (set (set (set (set xs 0 1) 1 slot) 2 number) 4 high) 5 low

module _ (bytes part : List ℕ) (slot number high low : ℕ) (short : length bytes ≤ max_piece) (e : part ≡ bytes)
    (h : high ≡ length bytes / 256 % 256) (l : low ≡ length bytes % 256) where
  abbrev written : List ℕ → List ℕ
  written xs = put_mid 8 (8 + length bytes - 8) (noted xs slot number high low) part

  filled_elements : (x0 x1 x2 x3 x4 x5 x6 x7 : ℕ) (rest : List ℕ) → length rest ≡ max_piece
      → Filled slot number bytes (written (x0 ∷ x1 ∷ x2 ∷ x3 ∷ x4 ∷ x5 ∷ x6 ∷ x7 ∷ rest))
  filled_elements x0 x1 x2 x3 x4 x5 x6 x7 rest long =
      let n = length bytes in
      let xs = x0 ∷ x1 ∷ x2 ∷ x3 ∷ x4 ∷ x5 ∷ x6 ∷ x7 ∷ rest in
      let behind = drop (8 + n - 8) rest in
      let length_is : length_in (written xs) ≡ n = omega arith in
      let size : length (part ++ behind) ≡ max_piece = let a = length-append part behind in let b = length-drop (8 + n - 8) rest in let s = ap length e in omega arith in
      record {
        long = omega arith;
        used = refl;
        slot_is = refl;
        number_is = refl;
        length_is = length_is;
        content_is = ap (λ k. take k (part ++ behind)) length_is ∙ (take_at part behind n (ap length e) ∙ e);
      }

  pub filled : (xs : List ℕ) → length xs ≡ cell_length → Filled slot number bytes (written xs)
  filled xs long =
      let x : ℕ → ℕ = λ k. get_or xs k 0 in
      let split : elements 8 0 xs ++ drop 8 xs ≡ xs = ap (λ t. t ++ drop 8 xs) (sym (take_elements 8 0 xs (omega arith))) ∙ take-append-drop 8 xs in
      subst (λ (t : List ℕ). Filled slot number bytes (written t)) split
      (filled_elements (x 0) (x 1) (x 2) (x 3) (x 4) (x 5) (x 6) (x 7) (drop 8 xs) (let d = length-drop 8 xs in omega arith))
