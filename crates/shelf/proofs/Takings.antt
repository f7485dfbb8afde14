-- When a piece is taken.
use Rattle.std.proofs.Common.{◌≡◌, ℕ, ◌<◌, ◌≤◌, true, false, List, length, arith}
use Rattle.std.proofs.lemmas.Bool.Decides.{nat_tests}
use Rattle.wire.specs.Limits.{max_packets, max_piece, max_slots}
use Rattle.shelf.specs.Pieces.{Pieces}
use Rattle.shelf.specs.Units.{cost, free_units, range_test, takes}

pub range_facts : (slot number long : ℕ) → range_test slot number long ≡ true → (slot < max_slots) × (number < max_packets) × (0 < long) × (long ≤ max_piece)
range_facts slot number long h = (grind (arith, nat_tests), grind (arith, nat_tests), grind (arith, nat_tests), grind (arith, nat_tests))

module _ (unit capacity : ℕ) (p : Pieces) (slot number : ℕ) (bytes : List ℕ) where
  -- what is so where the bytes are taken
  pub record Taken : Type 0 where
    pub slot_fits : slot < max_slots
    pub number_fits : number < max_packets
    pub some_byte : 0 < length bytes
    pub length_fits : length bytes ≤ max_piece
    pub place_empty : length (p slot number) ≡ 0
    pub units_suffice : cost unit (length bytes) ≤ free_units unit capacity p

  pub takes_then : takes unit capacity p slot number bytes ≡ true → Taken
  takes_then h = record {
    slot_fits = grind (arith, nat_tests);
    number_fits = grind (arith, nat_tests);
    some_byte = grind (arith, nat_tests);
    length_fits = grind (arith, nat_tests);
    place_empty = grind (arith, nat_tests);
    units_suffice = grind (arith, nat_tests);
  }

  pub takes_not_full : free_units unit capacity p < cost unit (length bytes) → false ≡ takes unit capacity p slot number bytes
  takes_not_full h = grind (arith, nat_tests)

  pub takes_so : Taken → true ≡ takes unit capacity p slot number bytes
  takes_so t =
      let a = t.slot_fits in
      let b = t.number_fits in
      let d = t.some_byte in
      let e = t.length_fits in
      let f = t.place_empty in
      let g = t.units_suffice in
      grind (arith, nat_tests)
