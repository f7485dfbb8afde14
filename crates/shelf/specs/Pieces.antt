-- Pieces: what a shelf holds at its places, and how one is compared and copied.
use Rattle.std.specs.Prelude.{◌≡◌, ℕ, ◌<◌, cond, List, ◌++◌, length, drop, nat_le}

-- at each slot and number a piece, or the empty list for nothing
abbrev pub Pieces : Type 0
Pieces = ℕ → ℕ → List ℕ

-- a place that holds this piece holds just these bytes
pub record HoldsJust (held bytes : List ℕ) : Type 0 where
  pub some_byte : 0 < length bytes
  pub same : held ≡ bytes

-- how much is copied out of a place that holds this piece
abbrev pub copied_length : List ℕ → List ℕ → ℕ
copied_length held buffer = cond (nat_le (length held) (length buffer)) (length held) 0

-- the buffer after that
abbrev pub copied_over : List ℕ → List ℕ → List ℕ
copied_over held buffer = cond (nat_le (length held) (length buffer)) (held ++ drop (length held) buffer) buffer
