-- Bytes that are stored in parts, each in a block that was free.
use Rattle.std.proofs.Common.{◌≡◌, ℕ, ◌+◌, ◌*◌, ◌<◌, ◌≤◌, true, false, eqb, List, length, sym, refl, ap, ◌∙◌, subst, inl, inr, arith}
use Rattle.std.proofs.lemmas.Bool.{cases_Bool, cases_eq, cases_lt, both_ways}
use Rattle.std.proofs.lemmas.Bool.Decides.{nat_tests}
use Rattle.wire.specs.Numbers.{Octets}
use Rattle.wire.proofs.Numbers.{octets_stretch}
use Rattle.shelf.specs.Sums.{count_of}
use Rattle.shelf.specs.Units.{cost, same_place, Puts}
use Rattle.shelf.proofs.Counts.{count_none, count_same, count_bump, count_all}
use Rattle.shelf.proofs.Picks.{pick_same, pick_last}
use Rattle.block.specs.Blocks.{Part, InRange, Lawful, used}
use Rattle.block.specs.Fields.{slot_in, number_in, whole_in}
use Rattle.block.specs.Dumps.{is_used}
use Rattle.shelf.specs.Memories.{Units, NoneFree}
use Rattle.blocks.specs.Parts.{part_of, part_from, content_of, sits, sits_part, part_in, piece_in, Sound}
use Rattle.blocks.specs.Steps.{NoneSits, Filled, StoredParts}
use Rattle.blocks.proofs.Fills.{filled_sits, filled_used, filled_part, filled_whole, filled_content}
use Rattle.blocks.specs.Cuts.{cost_is, part_begins, length_part, part_none, parts_join}
use Rattle.blocks.specs.Sounds.{sits_says, none_part}

-- a part of bytes that are in range is in range
pub part_range : (slot number : ℕ) (bytes : List ℕ) (k : ℕ) → slot < 8 → number < 64 → length bytes ≤ 1448 → Octets bytes → k < cost 500 (length bytes)
    → InRange (part_from slot number k (length bytes) (part_of bytes k))
part_range slot number bytes k s n short octets l = record {
  slot_fits = s;
  number_fits = n;
  whole_fits = short;
  part_begins = part_begins (length bytes) k l;
  length_is = length_part bytes k;
  octets_are = octets_stretch (k * 500) 500 bytes octets;
}

unused_sits : (x : List ℕ) (s n : ℕ) → is_used x ≡ false → sits x s n ≡ false
unused_sits x s n h = rw h

unused_part : (x : List ℕ) (s n k : ℕ) → is_used x ≡ false → sits_part x s n k ≡ false
unused_part x s n k h = rw h

pub store_none : (b : Units) (count slot number : ℕ) (bytes : List ℕ) → Sound b count → NoneSits b count slot number → StoredParts b count slot number bytes 0 b
store_none b count slot number bytes sound off = record {
  lawful = sound.lawful;
  others = λ i l f. refl;
  were_free = λ i l t. absurd (both_ways (sits (b i) slot number) (off i l) t);
  wholes = λ i l t. absurd (both_ways (sits (b i) slot number) (off i l) t);
  own_count = count_none (λ i. sits (b i) slot number) count off;
  used_count = omega arith;
  parts = λ p l. absurd (omega arith);
  none_later = λ i p l h. rw (off i l);
}

-- where there is room for one part more, not all blocks are used
pub some_free : (b : Units) (count slot number : ℕ) (bytes : List ℕ) (k : ℕ) (d : Units) → StoredParts b count slot number bytes k d
    → k + count_of (λ i. is_used (b i)) count < count → NoneFree is_used d count → ⊥
some_free b count slot number bytes k d so_far room full =
    let all = count_all (λ i. is_used (d i)) count full in
    let now_used = so_far.used_count in
    omega arith

module _ (b d e : Units) (count slot number : ℕ) (bytes : List ℕ) (k j : ℕ) (so_far : StoredParts b count slot number bytes k d)
    (within : j < count) (unused : is_used (d j) ≡ false) (range : InRange (part_from slot number k (length bytes) (part_of bytes k)))
    (filled : Filled (part_from slot number k (length bytes) (part_of bytes k)) (e j)) (same : (i : ℕ) → (i ≡ j → ⊥) → e i ≡ d i) where
  abbrev new : Part
  new = part_from slot number k (length bytes) (part_of bytes k)

  new_sits : sits (e j) slot number ≡ true
  new_sits = filled_sits new (e j) range filled

  new_part : (p : ℕ) → sits_part (e j) slot number p ≡ eqb k p
  new_part p = filled_part new (e j) range filled p

  was_off : sits (d j) slot number ≡ false
  was_off = unused_sits (d j) slot number unused

  more_lawful : (i : ℕ) → i < count → ∥ Lawful (e i) ∥₁
  more_lawful i l = elim (cases_eq i j) [
    | inl z ↦ subst (λ (t : ℕ). ∥ Lawful (e t) ∥₁) (sym z) ∣ used new range filled ∣₁
    | inr ne ↦ subst (λ (x : List ℕ). ∥ Lawful x ∥₁) (sym (same i ne)) (so_far.lawful i l)
  ]

  more_others : (i : ℕ) → i < count → sits (e i) slot number ≡ false → e i ≡ b i
  more_others i l f = elim (cases_eq i j) [
    | inl z ↦ absurd (both_ways (sits (e j) slot number) (ap (λ t. sits (e t) slot number) (sym z) ∙ f) new_sits)
    | inr ne ↦ same i ne ∙ so_far.others i l (ap (λ x. sits x slot number) (sym (same i ne)) ∙ f)
  ]

  more_free : (i : ℕ) → i < count → sits (e i) slot number ≡ true → is_used (b i) ≡ false
  more_free i l t = elim (cases_eq i j) [
    | inl z ↦ ap (λ x. is_used (b x)) z ∙ (ap is_used (sym (so_far.others j within was_off)) ∙ unused)
    | inr ne ↦ so_far.were_free i l (ap (λ x. sits x slot number) (sym (same i ne)) ∙ t)
  ]

  more_wholes : (i : ℕ) → i < count → sits (e i) slot number ≡ true → whole_in (e i) ≡ length bytes
  more_wholes i l t = elim (cases_eq i j) [
    | inl z ↦ ap (λ x. whole_in (e x)) z ∙ filled_whole new (e j) range filled
    | inr ne ↦ ap whole_in (same i ne) ∙ so_far.wholes i l (ap (λ x. sits x slot number) (sym (same i ne)) ∙ t)
  ]

  -- the block is not used for another part
  other_part : (p i : ℕ) → (p ≡ k → ⊥) → sits_part (e i) slot number p ≡ sits_part (d i) slot number p
  other_part p i ne = elim (cases_eq i j) [
    | inl z ↦
        let f : eqb k p ≡ false = grind (arith, nat_tests, ne) in
        ap (λ x. sits_part (e x) slot number p) z
        ∙ (new_part p ∙ (f ∙ (sym (unused_part (d j) slot number p unused) ∙ ap (λ x. sits_part (d x) slot number p) (sym z))))
    | inr off ↦ ap (λ x. sits_part x slot number p) (same i off)
  ]

  more_parts : (p : ℕ) → p < k + 1 → part_in e count slot number p ≡ part_of bytes p
  unfolding part_in
  more_parts p l = elim (cases_eq p k) [
    | inl z ↦
        let t : eqb k p ≡ true = grind (arith, nat_tests) in
        pick_last (λ i. sits_part (e i) slot number p) (λ i. content_of (e i)) count j within (new_part p ∙ t)
        (λ i after h. ap (λ x. sits_part x slot number p) (same i (λ y. omega arith)) ∙ so_far.none_later i p h (omega arith))
        ∙ (filled_content new (e j) range filled ∙ ap (part_of bytes) (sym z))
    | inr ne ↦
        pick_same (λ i. sits_part (d i) slot number p) (λ i. sits_part (e i) slot number p) (λ i. content_of (d i)) (λ i. content_of (e i)) count
        (λ i _. other_part p i ne)
        (λ i _ t. ap content_of (same i (λ z. both_ways (sits_part (d i) slot number p) (ap (λ x. sits_part (d x) slot number p) z ∙ unused_part (d j) slot number p unused) t)))
        ∙ so_far.parts p (omega (arith, ne))
  ]

  more_none : (i p : ℕ) → i < count → k + 1 ≤ p → sits_part (e i) slot number p ≡ false
  more_none i p l h = other_part p i (λ z. omega arith) ∙ so_far.none_later i p l (omega arith)

  -- one part more
  pub store_more : StoredParts b count slot number bytes (k + 1) e
  store_more =
      let own = count_bump (λ i. sits (d i) slot number) (λ i. sits (e i) slot number) count j within was_off new_sits
      (λ i ne. ap (λ x. sits x slot number) (same i ne)) in
      let all = count_bump (λ i. is_used (d i)) (λ i. is_used (e i)) count j within unused (filled_used new (e j) range filled)
      (λ i ne. ap is_used (same i ne)) in
      record {
        lawful = more_lawful;
        others = more_others;
        were_free = more_free;
        wholes = more_wholes;
        own_count = let z = so_far.own_count in omega arith;
        used_count = let z = so_far.used_count in omega arith;
        parts = more_parts;
        none_later = more_none;
      }

off_place : (x : List ℕ) (slot number s n : ℕ) → sits x slot number ≡ true → same_place slot number s n ≡ false → sits x s n ≡ false
off_place x slot number s n h f = grind (arith, nat_tests)

own_place : (x : List ℕ) (slot number : ℕ) → is_used x ≡ true → sits x slot number ≡ false → same_place slot number (slot_in x) (number_in x) ≡ false
own_place x slot number u f = grind (arith, nat_tests)

place_same : (slot number s n : ℕ) → same_place slot number s n ≡ true → (slot ≡ s) × (number ≡ n)
place_same slot number s n h = (grind (arith, nat_tests), grind (arith, nat_tests))

-- once all parts are stored
module _ (b d : Units) (count slot number : ℕ) (bytes : List ℕ) (stored : StoredParts b count slot number bytes (cost 500 (length bytes)) d)
    (sound : Sound b count) (short : length bytes ≤ 1448) where
  part_all : (p : ℕ) → part_in d count slot number p ≡ part_of bytes p
  part_all p = elim (cases_lt p (cost 500 (length bytes))) [
    | inl l ↦ stored.parts p l
    | inr past ↦
        none_part d count slot number p (λ i l. stored.none_later i p l past)
        ∙ sym (part_none bytes p (omega (arith, cost_is (length bytes))))
  ]

  own_piece : piece_in d count slot number ≡ bytes
  unfolding piece_in
  own_piece = rw (part_all 0, part_all 1, part_all 2) (parts_join bytes (omega arith))

  off_sits : (s n i : ℕ) → same_place slot number s n ≡ false → i < count → sits (d i) s n ≡ sits (b i) s n
  off_sits s n i f l = elim (cases_Bool (sits (d i) slot number)) [
    | inl t ↦ off_place (d i) slot number s n t f ∙ sym (unused_sits (b i) s n (stored.were_free i l t))
    | inr z ↦ ap (λ x. sits x s n) (stored.others i l z)
  ]

  -- a block of another place is as it was
  off_block : (s n i : ℕ) → i < count → sits (b i) s n ≡ true → d i ≡ b i
  off_block s n i l t = elim (cases_Bool (sits (d i) slot number)) [
    | inl y ↦ absurd (both_ways (sits (b i) s n) (unused_sits (b i) s n (stored.were_free i l y)) t)
    | inr z ↦ stored.others i l z
  ]

  off_part : (s n p i : ℕ) → same_place slot number s n ≡ false → i < count → sits_part (d i) s n p ≡ sits_part (b i) s n p
  off_part s n p i f l = elim (cases_Bool (sits (b i) s n)) [
    | inl t ↦ ap (λ x. sits_part x s n p) (off_block s n i l t)
    | inr z ↦ rw (off_sits s n i f l, z)
  ]

  part_off : (s n p : ℕ) → same_place slot number s n ≡ false → part_in d count s n p ≡ part_in b count s n p
  unfolding part_in
  part_off s n p f =
      pick_same (λ i. sits_part (b i) s n p) (λ i. sits_part (d i) s n p) (λ i. content_of (b i)) (λ i. content_of (d i)) count
      (λ i l. off_part s n p i f l)
      (λ i l t. ap content_of (off_block s n i l (grind (arith, nat_tests))))

  piece_off : (s n : ℕ) → same_place slot number s n ≡ false → piece_in d count s n ≡ piece_in b count s n
  unfolding piece_in
  piece_off s n f = rw (part_off s n 0 f, part_off s n 1 f, part_off s n 2 f)

  pub store_puts : Puts true (piece_in b count) slot number bytes (piece_in d count)
  store_puts s n = elim (cases_Bool (same_place slot number s n)) [
    | inl t ↦
        let e = place_same slot number s n t in
        rw t (ap (λ x. piece_in d count x n) (sym e.0) ∙ (ap (λ x. piece_in d count slot x) (sym e.1) ∙ own_piece))
    | inr f ↦ rw f (piece_off s n f)
  ]

  pub store_sound : Sound d count
  store_sound = record {
    lawful = stored.lawful;
    wholes = λ i l u. elim (cases_Bool (sits (d i) slot number)) [
      | inl t ↦
          let e = sits_says (d i) slot number t in
          ap (λ x. length (piece_in d count x (number_in (d i)))) e.1
          ∙ (ap (λ x. length (piece_in d count slot x)) e.2 ∙ (ap length own_piece ∙ sym (stored.wholes i l t)))
      | inr f ↦
          let same = stored.others i l f in
          ap length (piece_off (slot_in (d i)) (number_in (d i)) (own_place (d i) slot number u f))
          ∙ (ap (λ x. length (piece_in b count (slot_in x) (number_in x))) same ∙ (sound.wholes i l (ap is_used (sym same) ∙ u) ∙ ap whole_in (sym same)))
    ];
    counts = λ s n. elim (cases_Bool (same_place slot number s n)) [
      | inl t ↦
          let e = place_same slot number s n t in
          ap (λ x. count_of (λ i. sits (d i) x n) count) (sym e.0)
          ∙ (ap (λ x. count_of (λ i. sits (d i) slot x) count) (sym e.1)
          ∙ (stored.own_count ∙ ap (λ x. cost 500 (length x)) (sym own_piece ∙ (ap (piece_in d count slot) e.1 ∙ ap (λ x. piece_in d count x n) e.0))))
      | inr f ↦
          count_same (λ i. sits (b i) s n) (λ i. sits (d i) s n) count (λ i l. off_sits s n i f l)
          ∙ (sound.counts s n ∙ ap (λ x. cost 500 (length x)) (sym (piece_off s n f)))
    ];
  }
