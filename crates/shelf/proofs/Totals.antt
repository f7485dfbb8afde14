-- Sums of a function of the index.
use Rattle.std.proofs.Common.{◌≡◌, ℕ, zero, suc, ◌+◌, ◌<◌, sym, refl, ap, ◌∙◌, inl, inr, arith}
use Rattle.std.proofs.lemmas.Bool.{cases_eq}
use Rattle.wire.specs.Limits.{max_packets, max_slots}
use Rattle.shelf.specs.Sums.{total, over_places}

pub total_more : (f : ℕ → ℕ) (k : ℕ) → total f (suc k) ≡ f k + total f k
unfolding total
total_more f k = refl

pub total_zero : (f : ℕ → ℕ) → total f 0 ≡ 0
unfolding total
total_zero f = refl

pub total_same : (f g : ℕ → ℕ) (k : ℕ) → ((i : ℕ) → i < k → g i ≡ f i) → total g k ≡ total f k
unfolding total
total_same f g zero h = refl
total_same f g (suc k) h =
    let here : g k ≡ f k = h k (omega arith) in
    let rest : total g k ≡ total f k = total_same f g k (λ i l. h i (omega arith)) in
    omega arith

pub total_none : (f : ℕ → ℕ) (k : ℕ) → ((i : ℕ) → i < k → f i ≡ 0) → total f k ≡ 0
unfolding total
total_none f zero h = refl
total_none f (suc k) h =
    let here : f k ≡ 0 = h k (omega arith) in
    let rest : total f k ≡ 0 = total_none f k (λ i l. h i (omega arith)) in
    omega arith

-- one index has v more
pub total_bump : (f g : ℕ → ℕ) (j v k : ℕ) → j < k → g j ≡ v + f j → ((i : ℕ) → (i ≡ j → ⊥) → g i ≡ f i) → total g k ≡ v + total f k
unfolding total
total_bump f g j v zero l e h = absurd (omega arith)
total_bump f g j v (suc k) l e h =
    elim (cases_eq k j) [
      | inl same ↦
          let here : g k ≡ v + f k = ap g same ∙ (e ∙ ap (λ i. v + f i) (sym same)) in
          let rest : total g k ≡ total f k = total_same f g k (λ i b. h i (λ x. omega arith)) in
          omega arith
      | inr other ↦
          let here : g k ≡ f k = h k other in
          let rest : total g k ≡ v + total f k = total_bump f g j v k (omega arith) e h in
          omega arith
    ]

pub places_same : (f g : ℕ → ℕ → ℕ) → ((s n : ℕ) → s < max_slots → n < max_packets → g s n ≡ f s n) → over_places g ≡ over_places f
places_same f g h =
    total_same (λ s. total (f s) max_packets) (λ s. total (g s) max_packets) max_slots
    (λ s a. total_same (f s) (g s) max_packets (λ n b. h s n a b))

pub places_none : (f : ℕ → ℕ → ℕ) → ((s n : ℕ) → f s n ≡ 0) → over_places f ≡ 0
places_none f h = total_none (λ s. total (f s) max_packets) max_slots (λ s _. total_none (f s) max_packets (λ n _. h s n))

-- one place has v more
pub places_bump : (f g : ℕ → ℕ → ℕ) (a b v : ℕ) → a < max_slots → b < max_packets → g a b ≡ v + f a b
    → ((s n : ℕ) → (s ≡ a → n ≡ b → ⊥) → g s n ≡ f s n) → over_places g ≡ v + over_places f
places_bump f g a b v la lb e h =
    total_bump (λ s. total (f s) max_packets) (λ s. total (g s) max_packets) a v max_slots la
    (total_bump (f a) (g a) b v max_packets lb e (λ n ne. h a n (λ _ x. ne x)))
    (λ s ne. total_same (f s) (g s) max_packets (λ n _. h s n (λ x _. ne x)))
