-- Parts: what a block holds of a piece, and the pieces in the blocks of a memory.
use Rattle.std.specs.Prelude.{◌≡◌, ℕ, ◌*◌, ◌<◌, Bool, true, ◌&&◌, List, ◌++◌, length, take, drop, ◌==◌}
use Rattle.shelf.specs.Sums.{count_of}
use Rattle.shelf.specs.Units.{cost, same_place}
use Rattle.shelf.specs.Stores.{pick}
use Rattle.shelf.specs.Memories.{Units}
use Rattle.block.specs.Limits.{data_start, data_length}
use Rattle.block.specs.Blocks.{Part, Lawful}
use Rattle.block.specs.Fields.{slot_in, number_in, index_in, length_in, whole_in}
use Rattle.block.specs.Dumps.{is_used}
use Rattle.blocks.specs.declared.fields.Part as code

-- part k of the bytes: all parts but the last are full
abbrev pub part_of : List ℕ → ℕ → List ℕ
part_of bytes k = take data_length (drop (k * data_length) bytes)

-- these bytes as one part of the piece at this place
abbrev pub part_from : ℕ → ℕ → ℕ → ℕ → List ℕ → Part
part_from s n k long bytes = record { slot = s; number = n; index = k; whole = long; octets = bytes }

-- a part, as the code has it
abbrev pub shown : code.Part → Part
shown p = part_from p.place.slot p.place.number p.index p.whole p.bytes.now

module _ (x : List ℕ) where
  -- the bytes of the piece that stand in the used block x
  abbrev pub content_of : List ℕ
  content_of = take (length_in x) (drop data_start x)

  -- is it used for this slot?
  abbrev pub in_slot : ℕ → Bool
  in_slot slot = is_used x && slot_in x == slot

  -- is it used for this place?
  abbrev pub sits : ℕ → ℕ → Bool
  sits slot number = is_used x && same_place (slot_in x) (number_in x) slot number

  -- is it used for part k of the piece at this place?
  abbrev pub sits_part : ℕ → ℕ → ℕ → Bool
  sits_part slot number k = sits slot number && index_in x == k

-- part k of the piece that the first blocks hold for a place
unfoldable pub part_in : Units → ℕ → ℕ → ℕ → ℕ → List ℕ
part_in blocks count s n k = pick (λ i. sits_part (blocks i) s n k) (λ i. content_of (blocks i)) count

-- that piece, which has at most three parts
unfoldable pub piece_in : Units → ℕ → ℕ → ℕ → List ℕ
piece_in blocks count s n = part_in blocks count s n 0 ++ (part_in blocks count s n 1 ++ part_in blocks count s n 2)

-- what holds of the first blocks at all times
pub record Sound (blocks : Units) (count : ℕ) : Type 0 where
  pub lawful : (i : ℕ) → i < count → ∥ Lawful (blocks i) ∥₁
  -- a used block says how long its piece is
  pub wholes : (i : ℕ) → i < count → is_used (blocks i) ≡ true
      → length (piece_in blocks count (slot_in (blocks i)) (number_in (blocks i))) ≡ whole_in (blocks i)
  -- as many blocks are used for a place as its piece costs
  pub counts : (s n : ℕ) → count_of (λ i. sits (blocks i) s n) count ≡ cost data_length (length (piece_in blocks count s n))
  deriving IsProp as sound_prop
