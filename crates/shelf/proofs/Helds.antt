-- What pieces cost, from the stores that are used for them.
use Rattle.std.proofs.Common.{◌≡◌, ℕ, zero, suc, ◌+◌, ◌<◌, Bool, true, length, sym, ap, ◌∙◌, inl, inr, arith}
use native.Mathlib.Nat.{div-eq_of_lt}
use Rattle.std.proofs.lemmas.Bool.{cases_Bool}
use Rattle.std.proofs.lemmas.Bool.Decides.{nat_tests}
use Rattle.wire.specs.Limits.{max_packets, max_slots}
use Rattle.shelf.specs.Sums.{count_of, over_places}
use Rattle.shelf.specs.Pieces.{Pieces}
use Rattle.shelf.specs.Units.{cost, units_held}
use Rattle.shelf.specs.Stores.{sited}
use Rattle.shelf.proofs.Counts.{count_zero, count_yes, count_no}
use Rattle.shelf.proofs.Totals.{places_same, places_none, places_bump}

-- nothing costs nothing
pub cost_none : (unit : ℕ) → 0 < unit → cost unit 0 ≡ 0
unfolding cost
cost_none unit h = div-eq_of_lt (omega arith)

-- the stores used for each place, summed over all places, are the used stores
counts_sum : (used : ℕ → Bool) (slot number : ℕ → ℕ) (k : ℕ)
    → ((i : ℕ) → i < k → used i ≡ true → (slot i < max_slots) × (number i < max_packets))
    → over_places (λ s n. count_of (sited used slot number s n) k) ≡ count_of used k
counts_sum used slot number zero h =
    places_none (λ s n. count_of (sited used slot number s n) 0) (λ s n. count_zero (sited used slot number s n)) ∙ sym (count_zero used)
counts_sum used slot number (suc k) h =
    let was : ℕ → ℕ → ℕ = λ s n. count_of (sited used slot number s n) k in
    let new : ℕ → ℕ → ℕ = λ s n. count_of (sited used slot number s n) (suc k) in
    let rest : over_places was ≡ count_of used k = counts_sum used slot number k (λ i l. h i (omega arith)) in
    elim (cases_Bool (used k)) [
      | inl t ↦
          let ok = h k (omega arith) t in
          places_bump was new (slot k) (number k) 1 ok.0 ok.1
          (count_yes (sited used slot number (slot k) (number k)) k (grind (arith, nat_tests)))
          (λ s n ne. count_no (sited used slot number s n) k (grind (arith, nat_tests)))
          ∙ (ap (λ n. 1 + n) rest ∙ sym (count_yes used k t))
      | inr f ↦
          places_same was new (λ s n _ _. count_no (sited used slot number s n) k (rw f))
          ∙ (rest ∙ sym (count_no used k f))
    ]

-- where as many stores are used for each place as its piece costs, the pieces cost as many units as there are used stores
pub held_counts : (unit : ℕ) (p : Pieces) (used : ℕ → Bool) (slot number : ℕ → ℕ) (k : ℕ)
    → ((i : ℕ) → i < k → used i ≡ true → (slot i < max_slots) × (number i < max_packets))
    → ((s n : ℕ) → count_of (sited used slot number s n) k ≡ cost unit (length (p s n))) → units_held unit p ≡ count_of used k
held_counts unit p used slot number k h e =
    places_same (λ s n. count_of (sited used slot number s n) k) (λ s n. cost unit (length (p s n))) (λ s n _ _. sym (e s n))
    ∙ counts_sum used slot number k h
