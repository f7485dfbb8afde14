-- Cells: what one notes, and the pieces in the cells of a memory.
use Rattle.std.specs.Prelude.{◌≡◌, ℕ, ◌<◌, ◌≤◌, Bool, true, false, ◌&&◌, List, [], ◌∷◌, length, take, drop, ◌==◌, slice_index}
use Rattle.wire.specs.declared.order.ByteOrder.TheVariants.{Big}
use Rattle.wire.specs.Limits.{max_packets, max_piece, max_slots}
use Rattle.wire.specs.Numbers.{number_of}
use Rattle.shelf.specs.Sums.{count_of}
use Rattle.shelf.specs.Units.{cost, same_place}
use Rattle.shelf.specs.Stores.{pick}
use Rattle.shelf.specs.Memories.{Units, unit_at}
use Rattle.cells.specs.Limits.{notes_length, cell_length}

-- byte 0 is 1 where the cell x is used; then come slot, number, a byte of no meaning, and the length in two bytes
module _ (x : List ℕ) where
  abbrev pub is_used : Bool
  is_used = slice_index x 0 == 1

  abbrev pub slot_in : ℕ
  slot_in = slice_index x 1

  abbrev pub number_in : ℕ
  number_in = slice_index x 2

  abbrev pub length_in : ℕ
  length_in = number_of Big (slice_index x 4 ∷ slice_index x 5 ∷ [])

  -- the piece in the cell
  abbrev pub content_of : List ℕ
  content_of = take length_in (drop notes_length x)

  -- is it used for this slot?
  abbrev pub in_slot : ℕ → Bool
  in_slot slot = is_used && slot_in == slot

  -- is it used for this place?
  abbrev pub sits : ℕ → ℕ → Bool
  sits slot number = is_used && same_place slot_in number_in slot number

-- a used cell notes a place and a length in range
pub record Noted (x : List ℕ) : Type 0 where
  pub slot_fits : slot_in x < max_slots
  pub number_fits : number_in x < max_packets
  pub some_byte : 0 < length_in x
  pub length_fits : length_in x ≤ max_piece
  deriving IsProp as noted_prop

-- the cell holds these bytes for this place
pub record Filled (slot number : ℕ) (bytes x : List ℕ) : Type 0 where
  pub long : length x ≡ cell_length
  pub used : is_used x ≡ true
  pub slot_is : slot_in x ≡ slot
  pub number_is : number_in x ≡ number
  pub length_is : length_in x ≡ length bytes
  pub content_is : content_of x ≡ bytes

pub record Freed (x : List ℕ) : Type 0 where
  pub long : length x ≡ cell_length
  pub unused : is_used x ≡ false

-- the cells of a memory, by their index
abbrev pub cell_at : List ℕ → Units
cell_at = unit_at cell_length

-- the piece that the first cells hold for a place
abbrev pub piece_in : Units → ℕ → ℕ → ℕ → List ℕ
piece_in cells count s n = pick (λ i. sits (cells i) s n) (λ i. content_of (cells i)) count

-- what holds of the first cells at all times
pub record Sound (cells : Units) (count : ℕ) : Type 0 where
  pub long : (i : ℕ) → i < count → length (cells i) ≡ cell_length
  pub noted : (i : ℕ) → i < count → is_used (cells i) ≡ true → Noted (cells i)
  -- as many cells are used for a place as its piece costs
  pub counts : (s n : ℕ) → count_of (λ i. sits (cells i) s n) count ≡ cost max_piece (length (piece_in cells count s n))
  deriving IsProp as sound_prop
