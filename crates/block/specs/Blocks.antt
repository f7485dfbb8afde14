-- A block: what it says, and its bytes.
use Rattle.std.specs.Prelude.{◌≡◌, ℕ, ◌+◌, ◌-◌, ◌*◌, ◌<◌, ◌≤◌, min, List, ◌∷◌, ◌++◌, length, replicate}
use Rattle.wire.specs.declared.order.ByteOrder.TheVariants.{Big}
use Rattle.wire.specs.Limits.{max_packets, max_piece, max_slots}
use Rattle.wire.specs.Numbers.{Octets, digits}
use Rattle.block.specs.Limits.{data_start, data_length, check_start}
use Rattle.block.specs.Check.{check_of}

-- what a used block says: one part of the piece that stands at this slot and number
pub record Part : Type 0 where
  pub slot : ℕ
  pub number : ℕ
  -- which part of the piece, from 0 on
  pub index : ℕ
  -- the length of the whole piece
  pub whole : ℕ
  -- the bytes of the piece that are here
  pub octets : List ℕ

-- how long this part of the piece is: all parts but the last are full
abbrev pub part_length : ℕ → ℕ → ℕ
part_length whole index = min data_length (whole - index * data_length)

pub record InRange (p : Part) : Type 0 where
  pub slot_fits : p.slot < max_slots
  pub number_fits : p.number < max_packets
  pub whole_fits : p.whole ≤ max_piece
  -- so the whole has a byte, and there are as many parts as it takes
  pub part_begins : p.index * data_length < p.whole
  pub length_is : length p.octets ≡ part_length p.whole p.index
  pub octets_are : Octets p.octets

-- the bytes before the check: with nothing in them, and with a part
unfoldable pub free_front : List ℕ
free_front = replicate check_start 0

abbrev pub used_front : Part → List ℕ
used_front p =
    1 ∷ p.slot ∷ p.number ∷ p.index ∷
    (digits Big 2 (length p.octets)
    ++ (digits Big 2 p.whole
    ++ (p.octets ++ replicate (check_start - (data_start + length p.octets)) 0)))

-- the check stands behind the bytes that it is of
abbrev pub sealed : List ℕ → List ℕ
sealed front = front ++ digits Big 2 (check_of front)

pub data Lawful (xs : List ℕ) : Type 0 where
  free : xs ≡ sealed free_front → Lawful xs
  used : (p : Part) → InRange p → xs ≡ sealed (used_front p) → Lawful xs
