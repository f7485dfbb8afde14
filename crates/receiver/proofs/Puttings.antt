-- A piece that is put, or not, on a shelf.
use Rattle.std.proofs.Common.{◌≡◌, ℕ, ◌<◌, ◌≤◌, Bool, true, false, cond, ◌&&◌, eqb, List, [], length, sym, refl, ap, ◌∙◌, inl, inr, arith}
use Rattle.std.proofs.lemmas.Bool.{cases_lt, eq-eqb, ne_eqb, both_ways}
use Rattle.std.proofs.lemmas.Bool.Decides.{nat_tests}
use Rattle.wire.specs.Limits.{max_packets, max_piece, max_slots}
use Rattle.shelf.specs.Pieces.{Pieces}
use Rattle.shelf.specs.Units.{cost, free_units, takes, same_place, Puts}
use Rattle.shelf.proofs.Takings.{takes_so}

module _ (r : Bool) (p q : Pieces) (slot number : ℕ) (bytes : List ℕ) (puts : Puts r p slot number bytes q) where
  pub put_not : r ≡ false → (s n : ℕ) → q s n ≡ p s n
  put_not f s n = puts s n ∙ ap (λ (t : Bool). cond (t && same_place slot number s n) bytes (p s n)) f

  pub put_here : r ≡ true → q slot number ≡ bytes
  put_here t =
      let a : eqb slot slot ≡ true = eq-eqb slot slot refl in
      let b : eqb number number ≡ true = eq-eqb number number refl in
      puts slot number ∙ grind (arith, nat_tests)

  pub put_other_slot : (s n : ℕ) → (s ≡ slot → ⊥) → q s n ≡ p s n
  put_other_slot s n ne = let a : eqb slot s ≡ false = ne_eqb slot s (λ e. ne (sym e)) in puts s n ∙ grind (arith, nat_tests)

  pub put_other_number : (s n : ℕ) → (n ≡ number → ⊥) → q s n ≡ p s n
  put_other_number s n ne = let a : eqb number n ≡ false = ne_eqb number n (λ e. ne (sym e)) in puts s n ∙ grind (arith, nat_tests)

-- where all else is as it should be, a piece is not taken for want of units
pub too_few : (unit capacity : ℕ) (p : Pieces) (slot number : ℕ) (bytes : List ℕ) → slot < max_slots → number < max_packets → 0 < length bytes → length bytes ≤ max_piece
    → p slot number ≡ [] → takes unit capacity p slot number bytes ≡ false → free_units unit capacity p < cost unit (length bytes)
too_few unit capacity p slot number bytes a b d e none f = elim (cases_lt (free_units unit capacity p) (cost unit (length bytes))) [
  | inl l ↦ l
  | inr m ↦ absurd (both_ways _ f (sym (takes_so unit capacity p slot number bytes (record {
    slot_fits = a;
    number_fits = b;
    some_byte = d;
    length_fits = e;
    place_empty = ap length none;
    units_suffice = m;
  }))))
]
