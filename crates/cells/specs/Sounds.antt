-- What follows of cells that are sound.
use Rattle.std.proofs.Common.{◌≡◌, ℕ, ◌<◌, ◌≤◌, true, ◌⊎◌, List, [], length, drop, ap, ◌∙◌, inl, inr, arith}
use Rattle.std.proofs.lemmas.List.{length-drop, length-take-le}
use Rattle.std.proofs.lemmas.Bool.Decides.{nat_tests}
use Rattle.shelf.specs.Sums.{count_of}
use Rattle.shelf.specs.Units.{cost, units_held, Tidy}
use Rattle.shelf.proofs.Counts.{count_le}
use Rattle.shelf.proofs.Helds.{held_counts}
use Rattle.shelf.proofs.Picks.{pick_none, pick_cases}
use Rattle.wire.specs.Limits.{max_packets, max_piece, max_slots}
use Rattle.shelf.specs.Memories.{Units}
use Rattle.cells.specs.Limits.{cell_length}
use Rattle.cells.specs.Cells.{is_used, slot_in, number_in, length_in, content_of, sits, piece_in, Sound}
use Rattle.cells.specs.Steps.{NoneSits}

-- a piece costs one cell
pub cost_one : (n : ℕ) → 0 < n → n ≤ max_piece → cost max_piece n ≡ 1
unfolding cost
cost_one n h l = omega arith

pub length_content : (x : List ℕ) → length x ≡ cell_length → length_in x ≤ max_piece → length (content_of x) ≡ length_in x
length_content x l s = length-take-le (length_in x) (drop 8 x) (let d = length-drop 8 x in omega arith)

-- what a cell of a place notes
pub sits_notes : (x : List ℕ) (s n : ℕ) → sits x s n ≡ true → (is_used x ≡ true) × (slot_in x ≡ s) × (number_in x ≡ n)
sits_notes x s n h = (grind (arith, nat_tests), grind (arith, nat_tests), grind (arith, nat_tests))

pub none_piece : (cells : Units) (count s n : ℕ) → NoneSits cells count s n → piece_in cells count s n ≡ []
none_piece cells count s n h = pick_none (λ i. sits (cells i) s n) (λ i. content_of (cells i)) count h

module _ (cells : Units) (count : ℕ) (sound : Sound cells count) where
  -- the cells used are the units that the pieces cost
  pub held_used : units_held max_piece (piece_in cells count) ≡ count_of (λ i. is_used (cells i)) count
  held_used =
      held_counts max_piece (piece_in cells count) (λ i. is_used (cells i)) (λ i. slot_in (cells i)) (λ i. number_in (cells i)) count
      (λ i l u. let n = sound.noted i l u in (n.slot_fits, n.number_fits)) sound.counts

  -- a place out of range holds nothing, and a piece has a length in range
  pub piece_cases : (s n : ℕ)
      → NoneSits cells count s n ⊎ ((s < max_slots) × (n < max_packets) × (0 < length (piece_in cells count s n)) × (length (piece_in cells count s n) ≤ max_piece))
  piece_cases s n =
      elim (pick_cases (λ i. sits (cells i) s n) (λ i. content_of (cells i)) count) [
        | inl none ↦ inl none
        | inr some ↦
            let i = some.0 in
            let at = sits_notes (cells i) s n some.2 in
            let noted = sound.noted i some.1 at.0 in
            let long : length (piece_in cells count s n) ≡ length_in (cells i) =
            ap length some.3 ∙ length_content (cells i) (sound.long i some.1) noted.length_fits in
            inr (omega (arith, noted.slot_fits, at.1), omega (arith, noted.number_fits, at.2), omega (arith, noted.some_byte), omega (arith, noted.length_fits))
      ]

  -- a place that holds nothing has no cell
  pub none_sits : (s n : ℕ) → length (piece_in cells count s n) ≡ 0 → NoneSits cells count s n
  none_sits s n e = elim (piece_cases s n) [ inl none ↦ none | inr f ↦ absurd (omega arith) ]

  pub sound_tidy : Tidy max_piece count (piece_in cells count)
  sound_tidy = record {
    unit_some = omega arith;
    pieces_fit = λ s n. elim (piece_cases s n) [ inl none ↦ rw (none_piece cells count s n none) (omega arith) | inr f ↦ f.3 ];
    slots_fit = λ s n l. elim (piece_cases s n) [ inl none ↦ none_piece cells count s n none | inr f ↦ absurd (omega arith) ];
    numbers_fit = λ s n l. elim (piece_cases s n) [ inl none ↦ none_piece cells count s n none | inr f ↦ absurd (omega arith) ];
    units_fit = let h = held_used in let l = count_le (λ i. is_used (cells i)) count in omega arith;
  }
