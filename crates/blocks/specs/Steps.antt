-- What is found among blocks, and how they are written.
use Rattle.std.proofs.Common.{ap}
use Rattle.std.specs.Prelude.{◌≡◌, ℕ, ◌+◌, ◌*◌, ◌/◌, ◌<◌, ◌≤◌, min, Bool, true, false, List, [], length, take, drop, slice_index}
use Rattle.shelf.specs.Sums.{count_of}
use Rattle.block.specs.Limits.{block_length, data_length}
use Rattle.block.specs.Blocks.{Part, Lawful, used_front, free_front, sealed}
use Rattle.block.specs.Fields.{whole_in}
use Rattle.block.specs.Dumps.{block_at, is_used, Passes}
use Rattle.shelf.specs.Units.{units_held, takes, Puts}
use Rattle.shelf.specs.Memories.{Units}
use Rattle.blocks.specs.Limits.{max_blocks}
use Rattle.blocks.specs.Parts.{part_of, sits, sits_part, part_in, piece_in}

-- none of the first blocks is used for the place
abbrev pub NoneSits : Units → ℕ → ℕ → ℕ → Type 0
NoneSits blocks count slot number = (i : ℕ) → i < count → sits (blocks i) slot number ≡ false

-- none of the first blocks is used for part k of the piece at the place
abbrev pub NonePart : Units → ℕ → ℕ → ℕ → ℕ → Type 0
NonePart blocks count slot number k = (i : ℕ) → i < count → sits_part (blocks i) slot number k ≡ false

-- the block x holds this part of a piece
abbrev pub Filled : Part → List ℕ → Type 0
Filled p x = x ≡ sealed (used_front p)

-- the block x holds nothing
abbrev pub Freed : List ℕ → Type 0
Freed x = x ≡ sealed free_front

pub freed_unused : (x : List ℕ) → Freed x → is_used x ≡ false
unfolding free_front
freed_unused x e = ap is_used e

-- the first k parts of the bytes are stored at the place, each in a block that was free: b before, d now
pub record StoredParts (b : Units) (count slot number : ℕ) (bytes : List ℕ) (k : ℕ) (d : Units) : Type 0 where
  pub lawful : (i : ℕ) → i < count → ∥ Lawful (d i) ∥₁
  pub others : (i : ℕ) → i < count → sits (d i) slot number ≡ false → d i ≡ b i
  pub were_free : (i : ℕ) → i < count → sits (d i) slot number ≡ true → is_used (b i) ≡ false
  pub wholes : (i : ℕ) → i < count → sits (d i) slot number ≡ true → whole_in (d i) ≡ length bytes
  pub own_count : count_of (λ i. sits (d i) slot number) count ≡ k
  pub used_count : count_of (λ i. is_used (d i)) count ≡ k + count_of (λ i. is_used (b i)) count
  pub parts : (p : ℕ) → p < k → part_in d count slot number p ≡ part_of bytes p
  pub none_later : (i p : ℕ) → i < count → k ≤ p → sits_part (d i) slot number p ≡ false

-- of the buffer u the bytes of the first k parts of the piece p are written: w now
pub record CopiedParts (p u : List ℕ) (k : ℕ) (w : List ℕ) : Type 0 where
  pub long : length w ≡ length u
  pub front : (i : ℕ) → i < k * data_length → i < length p → slice_index w i ≡ slice_index p i
  pub behind : (i : ℕ) → min (k * data_length) (length p) ≤ i → slice_index w i ≡ slice_index u i

-- how many blocks a shelf takes of a memory
abbrev pub blocks_taken : List ℕ → ℕ
blocks_taken m = min (length m / block_length) max_blocks

-- an empty shelf of this many blocks is made on a memory that held m and holds w
pub record Made (m : List ℕ) (count : ℕ) (w : List ℕ) : Type 0 where
  pub count_is : count ≡ blocks_taken m
  pub freed : (i : ℕ) → i < count → Freed (block_at w i)
  pub empty : (s n : ℕ) → piece_in (block_at w) count s n ≡ []
  pub rest_stays : drop (count * block_length) w ≡ drop (count * block_length) m

-- a memory that held m is lent to an empty shelf, which takes these bytes at this place or not, as r says; the memory
-- holds w then: the shelf's pieces, and after its blocks what it had
pub record GivenBack (m : List ℕ) (slot number : ℕ) (bytes : List ℕ) (r : Bool) (w : List ℕ) : Type 0 where
  pub long : length w ≡ length m
  pub rest_stays : drop (blocks_taken m * block_length) w ≡ drop (blocks_taken m * block_length) m
  pub answer_is : r ≡ takes data_length (blocks_taken m) (λ _ _. []) slot number bytes
  pub holds_it : Puts r (λ _ _. []) slot number bytes (piece_in (block_at w) (blocks_taken m))
  -- a dump of the blocks passes inspection, with as many used as the pieces cost
  pub passes : Passes (take (blocks_taken m * block_length) w) (units_held data_length (piece_in (block_at w) (blocks_taken m)))
