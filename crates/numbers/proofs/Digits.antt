-- The numbers of a set, by the bits of the word that holds it.
use Rattle.std.proofs.Common.{◌≡◌, ℕ, zero, suc, ◌+◌, ◌-◌, ◌/◌, ◌%◌, ◌^◌, ◌<◌, ◌≤◌, refl, ap, ◌∙◌, inl, inr, pow-suc, arith}
use lib.Count.{ones, ones_step}
use lib.Arith.{lt-one}
use Rattle.std.specs.Int.{bit_at, trailing_ones, w64}
use Rattle.std.specs.Int.Count.{trailing_of_zero}
use Rattle.std.proofs.Math.Nat.{div-eq_of_lt-le}
use Rattle.std.proofs.lemmas.Bool.{cases_lt}
use Rattle.std.proofs.lemmas.Nat.Bits.{bit_at-lt, bit_at-suc, bit_at_ones, bit_at-trailing_ones}
use Rattle.numbers.specs.Marks.{Lowest, tally, has}
use Rattle.numbers.specs.declared.NumberSet.{NumberSet}

tally_low : (f : ℕ → ℕ) (j : ℕ) → tally f (suc j) ≡ f 0 + tally (λ k. f (suc k)) j
unfolding tally
tally_low f zero = omega arith
tally_low f (suc j) = omega (arith, tally_low f j)

tally_same : (f g : ℕ → ℕ) → ((k : ℕ) → f k ≡ g k) → (j : ℕ) → tally f j ≡ tally g j
unfolding tally
tally_same f g same zero = refl
tally_same f g same (suc j) = omega (arith, same j, tally_same f g same j)

-- a number of j bits has as many ones as its bits tally
pub ones_tally : (j m : ℕ) → m < 2 ^ j → ones m ≡ tally (bit_at m) j
unfolding ones tally
ones_tally zero m h = ap ones (lt-one h)
ones_tally (suc j) m h =
    let half : ones (m / 2) ≡ tally (bit_at (m / 2)) j = ones_tally j (m / 2) (omega (arith, h, pow-suc 2 j)) in
    omega (arith, ones_step m, half, tally_low (bit_at m) j, tally_same (λ k. bit_at m (suc k)) (bit_at (m / 2)) (bit_at-suc m) j)

-- the highest bit of a number of j + 1 bits
pub bit_top : (j m : ℕ) → 2 ^ j ≤ m → m < 2 ^ suc j → bit_at m j ≡ 1
bit_top j m l h = ap (λ (x : ℕ). x % 2) (div-eq_of_lt-le {k = 1} (2 ^ j) {m = m} (omega (arith, l)) (omega (arith, h, pow-suc 2 j)))

-- the lowest bit that is 0, or 64 if none of the 64 is
pub lowest_zero : (m : ℕ) → m < 2 ^ 64 → Lowest (bit_at m) 64 (trailing_ones w64 m)
lowest_zero m fits = elim (cases_lt (m + 1) (2 ^ 64)) [
  | inl l ↦ let t = bit_at-trailing_ones w64 m l in record { most = omega (arith, t.0); below = t.2; at = λ _. t.1 }
  | inr full ↦
      let e : m ≡ 2 ^ 64 - 1 = omega (arith, fits, full) in
      let all : trailing_ones w64 m ≡ 64 = ap (trailing_ones w64) e ∙ trailing_of_zero 64 in
      record {
        most = omega (arith, all);
        below = λ k l. ap (λ (x : ℕ). bit_at x k) e ∙ bit_at_ones 64 k (omega (arith, l, all));
        at = λ l. absurd (omega (arith, l, all));
      }
]

-- what other crates may know of any set
pub has_small : (s : NumberSet) (k : ℕ) → has s k < 2
unfolding has
has_small s k = bit_at-lt s.bits k

pub has_not : (s : NumberSet) (k : ℕ) → (has s k ≡ 1 → ⊥) → has s k ≡ 0
has_not s k ne = omega (arith, has_small s k, ne)
