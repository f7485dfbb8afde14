-- One more piece, in a cell that was free.
use Rattle.std.proofs.Common.{◌≡◌, ℕ, ◌+◌, ◌-◌, ◌*◌, drop, ◌<◌, ◌≤◌, true, false, List, length, sym, ap, ◌∙◌, subst, inl, inr, arith}
use Rattle.std.proofs.lemmas.Bool.{cases_Bool, cases_eq, both_ways}
use Rattle.std.proofs.lemmas.Bool.Decides.{nat_tests}
use Rattle.shelf.specs.Sums.{count_of}
use Rattle.shelf.specs.Units.{cost, range_test, takes, same_place, Puts}
use Rattle.shelf.proofs.Counts.{count_none, count_same, count_bump, count_all, count_lt}
use Rattle.shelf.proofs.Takings.{range_facts, Taken, takes_not_full, takes_so}
use Rattle.shelf.proofs.Picks.{pick_last, pick_same}
use Rattle.shelf.proofs.Places.{unit_here, one_unit, long_written, written_rest}
use borrow.Rule.Slice.PartMut.{put_mid}
use Rattle.wire.specs.Limits.{max_piece}
use Rattle.shelf.specs.Memories.{Units, NoneFree, IsFree}
use Rattle.cells.specs.Limits.{cell_length}
use Rattle.cells.specs.Cells.{cell_at, is_used, content_of, sits, Noted, Filled, piece_in, Sound}
use Rattle.cells.specs.Steps.{NoneSits}
use Rattle.cells.specs.Sounds.{cost_one, held_used, none_sits}

-- bytes in range, for a place that is empty
module _ (b : Units) (count : ℕ) (sound : Sound b count) (slot number : ℕ) (bytes : List ℕ) (range : range_test slot number (length bytes) ≡ true)
    (empty : length (piece_in b count slot number) ≡ 0) where
  -- where no cell is free, they are not taken
  pub no_room : NoneFree is_used b count → false ≡ takes max_piece count (piece_in b count) slot number bytes
  no_room full =
      let in_range = range_facts slot number (length bytes) range in
      let held = held_used b count sound in
      let all = count_all (λ i. is_used (b i)) count full in
      let one = cost_one (length bytes) in_range.2 in_range.3 in
      takes_not_full max_piece count (piece_in b count) slot number bytes (omega arith)

  -- where one is free, they are
  pub some_room : (j : ℕ) → IsFree is_used b count j → Taken max_piece count (piece_in b count) slot number bytes
  some_room j free =
      let in_range = range_facts slot number (length bytes) range in
      let held = held_used b count sound in
      let less = count_lt (λ i. is_used (b i)) count j free.within free.unused in
      let one = cost_one (length bytes) in_range.2 in_range.3 in
      record {
        slot_fits = in_range.0;
        number_fits = in_range.1;
        some_byte = in_range.2;
        length_fits = in_range.3;
        place_empty = empty;
        units_suffice = omega arith;
      }

module _ (b d : Units) (count j slot number : ℕ) (bytes : List ℕ) (sound : Sound b count) (free : IsFree is_used b count j)
    (taken : Taken max_piece count (piece_in b count) slot number bytes) (filled : Filled slot number bytes (d j))
    (others : (i : ℕ) → (i ≡ j → ⊥) → d i ≡ b i) where
  absent : NoneSits b count slot number
  absent = none_sits b count sound slot number taken.place_empty

  at_new : (s n : ℕ) → sits (d j) s n ≡ same_place slot number s n
  at_new s n = rw (filled.used, filled.slot_is, filled.number_is)

  was_off : (s n : ℕ) → sits (b j) s n ≡ false
  was_off s n = rw free.unused

  at_other : (s n i : ℕ) → (i ≡ j → ⊥) → sits (d i) s n ≡ sits (b i) s n
  at_other s n i ne = ap (λ x. sits x s n) (others i ne)

  -- no other cell is used for the place
  alone : (s n : ℕ) → same_place slot number s n ≡ true → (i : ℕ) → i < count → (i ≡ j → ⊥) → sits (d i) s n ≡ false
  alone s n t i l ne =
      let es : slot ≡ s = grind (arith, nat_tests) in
      let en : number ≡ n = grind (arith, nat_tests) in
      at_other s n i ne ∙ (ap (λ x. sits (b i) x n) (sym es) ∙ (ap (λ x. sits (b i) slot x) (sym en) ∙ absent i l))

  piece_new : (s n : ℕ) → same_place slot number s n ≡ true → piece_in d count s n ≡ bytes
  piece_new s n t =
      pick_last (λ i. sits (d i) s n) (λ i. content_of (d i)) count j free.within (at_new s n ∙ t)
      (λ i a l. alone s n t i l (λ e. omega arith))
      ∙ filled.content_is

  same_sits : (s n : ℕ) → same_place slot number s n ≡ false → (i : ℕ) → sits (d i) s n ≡ sits (b i) s n
  same_sits s n f i = elim (cases_eq i j) [
    | inl e ↦ ap (λ x. sits (d x) s n) e ∙ (at_new s n ∙ (f ∙ (sym (was_off s n) ∙ ap (λ x. sits (b x) s n) (sym e))))
    | inr ne ↦ at_other s n i ne
  ]

  piece_kept : (s n : ℕ) → same_place slot number s n ≡ false → piece_in d count s n ≡ piece_in b count s n
  piece_kept s n f =
      pick_same (λ i. sits (b i) s n) (λ i. sits (d i) s n) (λ i. content_of (b i)) (λ i. content_of (d i)) count
      (λ i _. same_sits s n f i)
      (λ i _ t. ap content_of (others i (λ e. both_ways (sits (b i) s n) (ap (λ x. sits (b x) s n) e ∙ was_off s n) t)))

  pub put_puts : Puts true (piece_in b count) slot number bytes (piece_in d count)
  put_puts s n = elim (cases_Bool (same_place slot number s n)) [
    | inl t ↦ rw t (piece_new s n t)
    | inr f ↦ rw f (piece_kept s n f)
  ]

  noted_new : Noted (d j)
  noted_new = record {
    slot_fits = rw filled.slot_is taken.slot_fits;
    number_fits = rw filled.number_is taken.number_fits;
    some_byte = omega (arith, filled.length_is, taken.some_byte);
    length_fits = omega (arith, filled.length_is, taken.length_fits);
  }

  pub put_sound : Sound d count
  put_sound = record {
    long = λ i l. elim (cases_eq i j) [
      | inl e ↦ ap (λ x. length (d x)) e ∙ filled.long
      | inr ne ↦ ap length (others i ne) ∙ sound.long i l
    ];
    noted = λ i l u. elim (cases_eq i j) [
      | inl e ↦ subst (λ (x : ℕ). Noted (d x)) (sym e) noted_new
      | inr ne ↦ subst Noted (sym (others i ne)) (sound.noted i l (ap is_used (sym (others i ne)) ∙ u))
    ];
    counts = λ s n. elim (cases_Bool (same_place slot number s n)) [
      | inl t ↦
          let es : slot ≡ s = grind (arith, nat_tests) in
          let en : number ≡ n = grind (arith, nat_tests) in
          let none : count_of (λ i. sits (b i) s n) count ≡ 0 =
          count_none (λ i. sits (b i) s n) count (λ i l. ap (λ x. sits (b i) x n) (sym es) ∙ (ap (λ x. sits (b i) slot x) (sym en) ∙ absent i l)) in
          count_bump (λ i. sits (b i) s n) (λ i. sits (d i) s n) count j free.within (was_off s n) (at_new s n ∙ t) (at_other s n)
          ∙ (ap (λ k. 1 + k) none ∙ (sym (cost_one (length bytes) taken.some_byte taken.length_fits) ∙ ap (λ x. cost max_piece (length x)) (sym (piece_new s n t))))
      | inr f ↦
          count_same (λ i. sits (b i) s n) (λ i. sits (d i) s n) count (λ i _. same_sits s n f i)
          ∙ (sound.counts s n ∙ ap (λ x. cost max_piece (length x)) (sym (piece_kept s n f)))
    ];
  }

-- a memory with one more piece
module _ (m ys : List ℕ) (count j slot number : ℕ) (bytes : List ℕ) (fits : count * cell_length ≤ length m) (sound : Sound (cell_at m) count)
    (range : range_test slot number (length bytes) ≡ true) (empty : length (piece_in (cell_at m) count slot number) ≡ 0)
    (free : IsFree is_used (cell_at m) count j) (filled : Filled slot number bytes ys) where
  abbrev after : List ℕ
  after = put_mid (j * cell_length) (j * cell_length + cell_length - j * cell_length) m ys

  within : j * cell_length + cell_length ≤ length m
  within = omega (arith, free.within)

  taken : Taken max_piece count (piece_in (cell_at m) count) slot number bytes
  taken = some_room (cell_at m) count sound slot number bytes range empty j free

  here : Filled slot number bytes (cell_at after j)
  here = subst (Filled slot number bytes) (sym (unit_here cell_length m ys j within filled.long)) filled

  others : (i : ℕ) → (i ≡ j → ⊥) → cell_at after i ≡ cell_at m i
  others = (one_unit cell_length m ys j within filled.long).others

  pub fill_sound : (count * cell_length ≤ length after) × Sound (cell_at after) count
  fill_sound = (
    omega (arith, long_written cell_length m ys j within filled.long),
    put_sound (cell_at m) (cell_at after) count j slot number bytes sound free taken here others,
  )

  pub fill_puts : (true ≡ takes max_piece count (piece_in (cell_at m) count) slot number bytes)
      × Puts true (piece_in (cell_at m) count) slot number bytes (piece_in (cell_at after) count)
      × (drop (count * cell_length) after ≡ drop (count * cell_length) m)
  fill_puts = (
    takes_so max_piece count (piece_in (cell_at m) count) slot number bytes taken,
    put_puts (cell_at m) (cell_at after) count j slot number bytes sound free taken here others,
    written_rest cell_length m ys j within filled.long count free.within,
  )
