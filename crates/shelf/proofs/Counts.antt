-- How many pass a test.
use Rattle.std.proofs.Common.{◌≡◌, ℕ, zero, suc, ◌+◌, ◌<◌, ◌≤◌, Bool, true, false, cond, refl, ap, ◌∙◌, inl, inr, arith}
use Rattle.std.proofs.lemmas.Bool.{cases_Bool, cases_eq}
use Rattle.shelf.specs.Sums.{total, count_of}
use Rattle.shelf.proofs.Totals.{total_zero, total_same, total_none, total_bump}

pub count_zero : (test : ℕ → Bool) → count_of test 0 ≡ 0
count_zero test = total_zero (λ i. cond (test i) 1 0)

pub count_yes : (test : ℕ → Bool) (k : ℕ) → test k ≡ true → count_of test (suc k) ≡ 1 + count_of test k
unfolding total
count_yes test k t = rw t

pub count_no : (test : ℕ → Bool) (k : ℕ) → test k ≡ false → count_of test (suc k) ≡ count_of test k
unfolding total
count_no test k f = rw f (omega arith)

pub count_none : (test : ℕ → Bool) (k : ℕ) → ((i : ℕ) → i < k → test i ≡ false) → count_of test k ≡ 0
count_none test k h = total_none (λ i. cond (test i) 1 0) k (λ i l. ap (λ b. cond b 1 0) (h i l))

pub count_same : (test test' : ℕ → Bool) (k : ℕ) → ((i : ℕ) → i < k → test' i ≡ test i) → count_of test' k ≡ count_of test k
count_same test test' k h = total_same (λ i. cond (test i) 1 0) (λ i. cond (test' i) 1 0) k (λ i l. ap (λ b. cond b 1 0) (h i l))

-- one more passes
pub count_bump : (test test' : ℕ → Bool) (k j : ℕ) → j < k → test j ≡ false → test' j ≡ true
    → ((i : ℕ) → (i ≡ j → ⊥) → test' i ≡ test i) → count_of test' k ≡ 1 + count_of test k
count_bump test test' k j l f t h =
    total_bump (λ i. cond (test i) 1 0) (λ i. cond (test' i) 1 0) j 1 k l (rw (f, t)) (λ i ne. ap (λ b. cond b 1 0) (h i ne))

pub count_le : (test : ℕ → Bool) (k : ℕ) → count_of test k ≤ k
unfolding total
count_le test zero = omega arith
count_le test (suc k) =
    let rest = count_le test k in
    elim (cases_Bool (test k)) [ inl t ↦ rw t (omega arith) | inr f ↦ rw f (omega arith) ]

pub count_all : (test : ℕ → Bool) (k : ℕ) → ((i : ℕ) → i < k → test i ≡ true) → count_of test k ≡ k
unfolding total
count_all test zero h = refl
count_all test (suc k) h =
    let rest : count_of test k ≡ k = count_all test k (λ i l. h i (omega arith)) in
    rw (h k (omega arith)) (omega arith)

-- where one fails, not all pass
pub count_lt : (test : ℕ → Bool) (k j : ℕ) → j < k → test j ≡ false → count_of test k < k
unfolding total
count_lt test zero j l f = absurd (omega arith)
count_lt test (suc k) j l f =
    elim (cases_eq k j) [
      | inl same ↦ let f' : test k ≡ false = ap test same ∙ f in let rest = count_le test k in rw f' (omega arith)
      | inr other ↦
          let rest : count_of test k < k = count_lt test k j (omega arith) f in
          elim (cases_Bool (test k)) [ inl t ↦ rw t (omega arith) | inr n ↦ rw n (omega arith) ]
    ]

pub count_some : (test : ℕ → Bool) (k j : ℕ) → j < k → test j ≡ true → 0 < count_of test k
unfolding total
count_some test zero j l t = absurd (omega arith)
count_some test (suc k) j l t =
    elim (cases_eq k j) [
      | inl same ↦ let t' : test k ≡ true = ap test same ∙ t in rw t' (omega arith)
      | inr other ↦ let rest : 0 < count_of test k = count_some test k j (omega arith) t in omega arith
    ]
