-- A set of packet numbers, as marks: 1 at a number of the set, 0 at any other.
use Rattle.std.specs.Prelude.{◌≡◌, ℕ, zero, suc, ◌+◌, ◌<◌, ◌≤◌, ◌≢◌}
use Rattle.std.specs.Int.{bit_at}
use Rattle.wire.specs.Limits.{max_packets}
use Rattle.numbers.specs.declared.NumberSet.{NumberSet}

-- 1 if k is in the set s, else 0
unfoldable pub has : NumberSet → ℕ → ℕ
has s k = bit_at s.bits k

-- f 0 + .. + f (j - 1)
unfoldable pub tally : (ℕ → ℕ) → ℕ → ℕ
tally f zero = 0
tally f (suc j) = tally f j + f j

-- no number is marked
abbrev pub NoneMarked : (ℕ → ℕ) → Type 0
NoneMarked f = (k : ℕ) → f k ≡ 0

-- t is s with n too, if n is a packet number: no set has any other number
pub record Inserted (s t : NumberSet) (n : ℕ) : Type 0 where
  pub here : n < max_packets → has t n ≡ 1
  pub there : (k : ℕ) → (k ≢ n) → has t k ≡ has s k

-- r is the lowest number below j that is not marked, or j if all are
pub record Lowest (f : ℕ → ℕ) (j r : ℕ) : Type 0 where
  pub most : r ≤ j
  pub below : (k : ℕ) → k < r → f k ≡ 1
  pub at : r < j → f r ≡ 0

-- n is the highest number that is marked
pub record Highest (f : ℕ → ℕ) (n : ℕ) : Type 0 where
  pub at : f n ≡ 1
  pub above : (k : ℕ) → n < k → f k ≡ 0
