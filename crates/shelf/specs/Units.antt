-- Units: what pieces cost, what a shelf takes, and how a call changes what it holds.
use Rattle.std.specs.Prelude.{◌≡◌, ℕ, ◌+◌, ◌-◌, ◌/◌, ◌<◌, ◌≤◌, Bool, cond, ◌&&◌, List, [], length, ◌==◌, nat_le, nat_lt}
use Rattle.wire.specs.Limits.{max_packets, max_piece, max_slots}
use Rattle.shelf.specs.Sums.{over_places}
use Rattle.shelf.specs.Pieces.{Pieces}

-- the units that a piece of n bytes begins
unfoldable pub cost : ℕ → ℕ → ℕ
cost unit n = (n + (unit - 1)) / unit

-- the units that all pieces cost
abbrev pub units_held : ℕ → Pieces → ℕ
units_held unit p = over_places (λ s n. cost unit (length (p s n)))

abbrev pub free_units : ℕ → ℕ → Pieces → ℕ
free_units unit capacity p = capacity - units_held unit p

-- are slot, number and length in range?
abbrev pub range_test : ℕ → ℕ → ℕ → Bool
range_test slot number long = nat_lt slot max_slots && (nat_lt number max_packets && (nat_lt 0 long && nat_le long max_piece))

-- are these bytes taken at this place?
abbrev pub takes : ℕ → ℕ → Pieces → ℕ → ℕ → List ℕ → Bool
takes unit capacity p slot number bytes =
    nat_lt slot max_slots && (nat_lt number max_packets
    && (nat_lt 0 (length bytes) && (nat_le (length bytes) max_piece
    && (length (p slot number) == 0
    && nat_le (cost unit (length bytes)) (free_units unit capacity p)))))

-- is (s, n) the place at this slot and number?
abbrev pub same_place : ℕ → ℕ → ℕ → ℕ → Bool
same_place slot number s n = slot == s && number == n

-- q is p, but where r says so with the bytes at the place
abbrev pub Puts : Bool → Pieces → ℕ → ℕ → List ℕ → Pieces → Type 0
Puts r p slot number bytes q = (s n : ℕ) → q s n ≡ cond (r && same_place slot number s n) bytes (p s n)

-- q is p, but with nothing in the slot
abbrev pub Clears : Pieces → ℕ → Pieces → Type 0
Clears p slot q = (s n : ℕ) → q s n ≡ cond (slot == s) [] (p s n)

-- what holds of every shelf
pub record Tidy (unit capacity : ℕ) (p : Pieces) : Type 0 where
  pub unit_some : 0 < unit
  pub pieces_fit : (s n : ℕ) → length (p s n) ≤ max_piece
  pub slots_fit : (s n : ℕ) → max_slots ≤ s → p s n ≡ []
  pub numbers_fit : (s n : ℕ) → max_packets ≤ n → p s n ≡ []
  pub units_fit : units_held unit p ≤ capacity
