-- Memories: the units of a memory, what is found among them, and how they are freed.
use Rattle.std.specs.Prelude.{◌≡◌, ℕ, ◌+◌, ◌*◌, ◌<◌, ◌≤◌, Bool, true, false, List, [], length, take, drop, ◌≢◌, slice_index, slice_index_or}

-- units, by their index
abbrev pub Units : Type 0
Units = ℕ → List ℕ

-- those of a list
abbrev pub nth_unit : List (List ℕ) → Units
nth_unit units i = slice_index_or units i []

-- those of a memory, where each has so many bytes
unfoldable pub unit_at : ℕ → List ℕ → Units
unit_at long m i = take long (drop (i * long) m)

-- none of the first units passes the test
abbrev pub NoneHit : (List ℕ → Bool) → Units → ℕ → Type 0
NoneHit hit units count = (i : ℕ) → i < count → hit (units i) ≡ false

-- unit i is the last of them that passes it
pub record LastHit (hit : List ℕ → Bool) (units : Units) (count i : ℕ) : Type 0 where
  pub within : i < count
  pub here : hit (units i) ≡ true
  pub none_after : (k : ℕ) → i < k → k < count → hit (units k) ≡ false

-- none of the first units is free
abbrev pub NoneFree : (List ℕ → Bool) → Units → ℕ → Type 0
NoneFree used units count = (i : ℕ) → i < count → used (units i) ≡ true

pub record IsFree (used : List ℕ → Bool) (units : Units) (count i : ℕ) : Type 0 where
  pub within : i < count
  pub unused : used (units i) ≡ false

-- the memory w is m but for unit j
pub record OneUnit (long : ℕ) (m : List ℕ) (j : ℕ) (w : List ℕ) : Type 0 where
  pub size : length w ≡ length m
  pub others : (i : ℕ) → (i ≢ j) → unit_at long w i ≡ unit_at long m i
  pub past : (k : ℕ) → j * long + long ≤ k → slice_index w k ≡ slice_index m k

-- of the first k units those of the slot are freed: b before, d now
pub record Cleared (in_slot : List ℕ → ℕ → Bool) (Freed : List ℕ → Type 0) (b : Units) (slot k : ℕ) (d : Units) : Type 0 where
  pub freed : (i : ℕ) → i < k → in_slot (b i) slot ≡ true → Freed (d i)
  pub others : (i : ℕ) → i < k → in_slot (b i) slot ≡ false → d i ≡ b i
  pub later : (i : ℕ) → k ≤ i → d i ≡ b i
