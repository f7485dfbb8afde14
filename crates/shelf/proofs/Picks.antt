-- What the last store that passes a test has.
use Rattle.std.proofs.Common.{◌≡◌, ℕ, zero, suc, ◌<◌, Bool, true, false, cond, ◌⊎◌, List, [], refl, ap, ◌∙◌, inl, inr, arith}
use Rattle.std.proofs.lemmas.Bool.{cases_Bool, cases_eq}
use Rattle.shelf.specs.Stores.{pick}

cond_then : {A : Type 0} (b : Bool) (x y z : A) → (b ≡ true → x ≡ y) → cond b x z ≡ cond b y z
cond_then true x y z h = h refl
cond_then false x y z h = refl

pub pick_none : (hit : ℕ → Bool) (d : ℕ → List ℕ) (k : ℕ) → ((i : ℕ) → i < k → hit i ≡ false) → pick hit d k ≡ []
unfolding pick
pick_none hit d zero h = refl
pick_none hit d (suc k) h = rw (h k (omega arith)) (pick_none hit d k (λ i l. h i (omega arith)))

pub pick_same : (hit hit' : ℕ → Bool) (d d' : ℕ → List ℕ) (k : ℕ) → ((i : ℕ) → i < k → hit' i ≡ hit i)
    → ((i : ℕ) → i < k → hit i ≡ true → d' i ≡ d i) → pick hit' d' k ≡ pick hit d k
unfolding pick
pick_same hit hit' d d' zero h e = refl
pick_same hit hit' d d' (suc k) h e =
    let rest : pick hit' d' k ≡ pick hit d k = pick_same hit hit' d d' k (λ i l. h i (omega arith)) (λ i l. e i (omega arith)) in
    rw (h k (omega arith)) (rw rest (cond_then (hit k) (d' k) (d k) (pick hit d k) (e k (omega arith))))

-- the last that is hit
pub pick_last : (hit : ℕ → Bool) (d : ℕ → List ℕ) (k j : ℕ) → j < k → hit j ≡ true
    → ((i : ℕ) → j < i → i < k → hit i ≡ false) → pick hit d k ≡ d j
unfolding pick
pick_last hit d zero j l t h = absurd (omega arith)
pick_last hit d (suc k) j l t h =
    elim (cases_eq k j) [
      | inl same ↦ let t' : hit k ≡ true = ap hit same ∙ t in rw t' (ap d same)
      | inr other ↦
          rw (h k (omega arith) (omega arith)) (pick_last hit d k j (omega arith) t (λ i a l'. h i a (omega arith)))
    ]

-- either none is hit, or what is picked is what one that is hit has
pub pick_cases : (hit : ℕ → Bool) (d : ℕ → List ℕ) (k : ℕ)
    → ((i : ℕ) → i < k → hit i ≡ false) ⊎ ((j : ℕ) × (j < k) × (hit j ≡ true) × (pick hit d k ≡ d j))
unfolding pick
pick_cases hit d zero = inl (λ i l. absurd (omega arith))
pick_cases hit d (suc k) =
    elim (cases_Bool (hit k)) [
      | inl t ↦ inr (k, omega arith, t, rw t)
      | inr f ↦ elim (pick_cases hit d k) [
        | inl none ↦ inl (λ i l. elim (cases_eq i k) [ inl e ↦ ap hit e ∙ f | inr ne ↦ none i (omega (arith, ne)) ])
        | inr some ↦ inr (some.0, omega (arith, some.1), some.2, rw f some.3)
      ]
    ]
