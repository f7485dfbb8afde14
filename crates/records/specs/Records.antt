-- Records: a length in two bytes, big-endian, and then as many bytes.
use Rattle.std.specs.Prelude.{◌≡◌, ℕ, ◌^◌, ◌<◌, ◌≤◌, List, [], ◌++◌, length, take, drop, slice_index_or}
use Rattle.std.specs.List.{flat_map}
use Rattle.wire.specs.declared.order.ByteOrder.TheVariants.{Big}
use Rattle.wire.specs.Numbers.{digits}

-- the record that holds xs
abbrev pub record_of : List ℕ → List ℕ
record_of xs = digits Big 2 (length xs) ++ xs

-- the input begins with the record that holds xs, and goes on with the rest
pub record Begins (input xs rest : List ℕ) : Type 0 where
  pub counted : length xs < 2 ^ 16
  pub bytes_are : input ≡ record_of xs ++ rest

-- the input begins with no whole record
abbrev pub Cut : List ℕ → Type 0
Cut input = (xs rest : List ℕ) → Begins input xs rest → ⊥

-- the first `used` bytes are n whole records in a row, and no whole record follows them
pub record Walked (input : List ℕ) (n used : ℕ) : Type 0 where
  -- what the records hold
  pub held : List (List ℕ)
  pub many : length held ≡ n
  pub counted : (i : ℕ) → i < length held → length (slice_index_or held i []) < 2 ^ 16
  pub used_fits : used ≤ length input
  pub in_a_row : take used input ≡ flat_map record_of held
  pub cut_after : Cut (drop used input)

-- the input begins with the records that hold these, one after the other, and goes on with the rest
pub record Passed (input : List ℕ) (held : List (List ℕ)) (rest : List ℕ) : Type 0 where
  pub counted : (i : ℕ) → i < length held → length (slice_index_or held i []) < 2 ^ 16
  pub in_a_row : input ≡ flat_map record_of held ++ rest
