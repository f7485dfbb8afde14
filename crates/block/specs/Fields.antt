-- A lawful block as a reader finds it, field by field.
use Rattle.std.specs.Prelude.{◌≡◌, ℕ, ◌+◌, ◌*◌, ◌<◌, ◌≤◌, List, [], ◌∷◌, length, take, slice_index, slice_index_or}
use Rattle.wire.specs.declared.order.ByteOrder.TheVariants.{Big}
use Rattle.wire.specs.Limits.{max_packets, max_piece, max_slots}
use Rattle.wire.specs.Numbers.{number_of}
use Rattle.block.specs.Limits.{block_length, data_start, data_length, check_start}
use Rattle.block.specs.Check.{check_of}
use Rattle.block.specs.Blocks.{part_length}

-- the number in the bytes k and k + 1
abbrev pub word_at : List ℕ → ℕ → ℕ
word_at xs k = number_of Big (slice_index xs k ∷ slice_index xs (k + 1) ∷ [])

module _ (xs : List ℕ) where
  abbrev pub slot_in : ℕ
  slot_in = slice_index xs 1

  abbrev pub number_in : ℕ
  number_in = slice_index xs 2

  abbrev pub index_in : ℕ
  index_in = slice_index xs 3

  abbrev pub length_in : ℕ
  length_in = word_at xs 4

  abbrev pub whole_in : ℕ
  whole_in = word_at xs 6

-- the bytes from k up to the check are zero
abbrev pub ZeroFrom : List ℕ → ℕ → Type 0
ZeroFrom xs k = (i : ℕ) → k ≤ i → i < check_start → slice_index xs i ≡ 0

-- the last two bytes are the check of those before
abbrev pub Sealed : List ℕ → Type 0
Sealed xs = word_at xs check_start ≡ check_of (take check_start xs)

-- the bytes before the check are those of a part in range
pub record PartFound (xs : List ℕ) : Type 0 where
  pub slot_fits : slot_in xs < max_slots
  pub number_fits : number_in xs < max_packets
  pub whole_fits : whole_in xs ≤ max_piece
  pub part_begins : index_in xs * data_length < whole_in xs
  pub length_is : length_in xs ≡ part_length (whole_in xs) (index_in xs)
  pub rest_zero : ZeroFrom xs (data_start + length_in xs)
  deriving IsProp as part_found_prop

pub record FoundLawful (xs : List ℕ) : Type 0 where
  pub long : length xs ≡ block_length
  pub state : slice_index_or xs 0 0 ≤ 1
  pub free : slice_index_or xs 0 0 ≡ 0 → ZeroFrom xs 0
  pub used : slice_index_or xs 0 0 ≡ 1 → PartFound xs
  pub sealed : Sealed xs
  deriving IsProp as found_lawful_prop
