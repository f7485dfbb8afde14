-- Sums over indices and over places.
use Rattle.std.specs.Prelude.{ℕ, zero, suc, ◌+◌, Bool, cond}
use Rattle.wire.specs.Limits.{max_packets, max_slots}

-- f 0 + .. + f (k - 1)
unfoldable pub total : (ℕ → ℕ) → ℕ → ℕ
total f zero = 0
total f (suc k) = f k + total f k

-- how many of the first k pass the test
abbrev pub count_of : (ℕ → Bool) → ℕ → ℕ
count_of test k = total (λ i. cond (test i) 1 0) k

-- the sum of f over all places
abbrev pub over_places : (ℕ → ℕ → ℕ) → ℕ
over_places f = total (λ s. total (f s) max_packets) max_slots
