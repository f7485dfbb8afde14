-- What follows of blocks that are sound.
use Rattle.std.proofs.Common.{◌≡◌, ℕ, ◌+◌, ◌-◌, ◌*◌, ◌<◌, ◌≤◌, min, true, ◌⊎◌, List, [], ◌++◌, length, get_or, sym, ap, ◌∙◌, subst, inl, inr, arith}
use Rattle.std.proofs.lemmas.List.{length-append, length-take, length-drop}
use Rattle.std.proofs.lemmas.Bool.{cases_eq}
use Rattle.std.proofs.lemmas.Bool.Decides.{nat_tests}
use Rattle.shelf.specs.Sums.{count_of}
use Rattle.shelf.specs.Units.{cost, free_units, units_held, Tidy}
use Rattle.shelf.proofs.Counts.{count_le}
use Rattle.shelf.proofs.Helds.{held_counts}
use Rattle.shelf.proofs.Picks.{pick_none, pick_cases}
use Rattle.block.specs.Blocks.{Lawful}
use Rattle.block.specs.Fields.{slot_in, number_in, index_in, length_in, whole_in, PartFound}
use Rattle.block.specs.Dumps.{is_used}
use Rattle.shelf.specs.Memories.{Units}
use Rattle.blocks.specs.Parts.{part_of, content_of, sits, sits_part, part_in, piece_in, Sound}
use Rattle.blocks.specs.Steps.{NoneSits, NonePart}
use Rattle.blocks.specs.Props.{found_of}
use Rattle.blocks.specs.Cuts.{cost_is, part_begins, parts_three, length_part, Exact, three_parts}

-- a used block has a part in range
pub part_found : (x : List ℕ) → ∥ Lawful x ∥₁ → is_used x ≡ true → PartFound x
part_found x law u = let one : get_or x 0 0 ≡ 1 = grind (arith, nat_tests) in (found_of x law).used one

content_long : (x : List ℕ) → ∥ Lawful x ∥₁ → is_used x ≡ true → length (content_of x) ≡ length_in x
content_long x law u = simp (length-take, length-drop) (omega (arith, (found_of x law).long, (part_found x law u).length_is))

-- what a block of a place says, and one of a part there
pub sits_says : (x : List ℕ) (s n : ℕ) → sits x s n ≡ true → (is_used x ≡ true) × (slot_in x ≡ s) × (number_in x ≡ n)
sits_says x s n h = (grind (arith, nat_tests), grind (arith, nat_tests), grind (arith, nat_tests))

pub part_says : (x : List ℕ) (s n k : ℕ) → sits_part x s n k ≡ true → (sits x s n ≡ true) × (index_in x ≡ k)
part_says x s n k h = (grind (arith, nat_tests), grind (arith, nat_tests))

pub none_part : (blocks : Units) (count s n k : ℕ) → NonePart blocks count s n k → part_in blocks count s n k ≡ []
unfolding part_in
none_part blocks count s n k h = pick_none (λ i. sits_part (blocks i) s n k) (λ i. content_of (blocks i)) count h

-- a place of which there is no block holds nothing
pub none_piece : (blocks : Units) (count s n : ℕ) → NoneSits blocks count s n → piece_in blocks count s n ≡ []
unfolding piece_in
none_piece blocks count s n h = rw (none 0, none 1, none 2)
  where
    none : (k : ℕ) → part_in blocks count s n k ≡ []
    none k = none_part blocks count s n k (λ i l. rw (h i l))

-- the length of part k of a piece, if the part is there
abbrev Fit : ℕ → ℕ → ℕ → Type 0
Fit long k l = (l ≡ 0) ⊎ ((k * 500 < long) × (l ≡ min 500 (long - k * 500)))

-- so if they make the whole, each is there
sizes : (long a b c : ℕ) → long ≡ a + (b + c) → Fit long 0 a → Fit long 1 b → Fit long 2 c → Exact long 0 a × Exact long 1 b × Exact long 2 c
sizes long a b c e (inl x) (inl y) (inl z) = (omega arith, omega arith, omega arith)
sizes long a b c e (inl x) (inl y) (inr z) = (omega arith, omega arith, omega arith)
sizes long a b c e (inl x) (inr y) (inl z) = (omega arith, omega arith, omega arith)
sizes long a b c e (inl x) (inr y) (inr z) = (omega arith, omega arith, omega arith)
sizes long a b c e (inr x) (inl y) (inl z) = (omega arith, omega arith, omega arith)
sizes long a b c e (inr x) (inl y) (inr z) = (omega arith, omega arith, omega arith)
sizes long a b c e (inr x) (inr y) (inl z) = (omega arith, omega arith, omega arith)
sizes long a b c e (inr x) (inr y) (inr z) = (omega arith, omega arith, omega arith)

-- one place
module _ (blocks : Units) (count : ℕ) (sound : Sound blocks count) (s n : ℕ) where
  abbrev piece : List ℕ
  piece = piece_in blocks count s n

  abbrev part : ℕ → List ℕ
  part k = part_in blocks count s n k

  -- a block of the place says how long the piece is
  pub whole_at : (i : ℕ) → i < count → sits (blocks i) s n ≡ true → whole_in (blocks i) ≡ length piece
  whole_at i l h =
      let is = sits_says (blocks i) s n h in
      sym (sound.wholes i l is.0)
      ∙ (ap (λ z. length (piece_in blocks count z (number_in (blocks i)))) is.1 ∙ ap (λ z. length (piece_in blocks count s z)) is.2)

  fit : (k : ℕ) → Fit (length piece) k (length (part k))
  unfolding part_in
  fit k =
      elim (pick_cases (λ i. sits_part (blocks i) s n k) (λ i. content_of (blocks i)) count) [
        | inl none ↦ inl (ap length (none_part blocks count s n k none))
        | inr some ↦
            let j = some.0 in
            let is = part_says (blocks j) s n k some.2 in
            let u = (sits_says (blocks j) s n is.0).0 in
            let law = sound.lawful j some.1 in
            let found = part_found (blocks j) law u in
            let e : whole_in (blocks j) ≡ length piece = whole_at j some.1 is.0 in
            let long : length (part k) ≡ length_in (blocks j) = ap length some.3 ∙ content_long (blocks j) law u in
            inr (omega (arith, found.part_begins, is.1), omega (arith, found.length_is, is.1))
      ]

  joined : length piece ≡ length (part 0) + (length (part 1) + length (part 2))
  unfolding piece_in
  joined = length-append (part 0) (part 1 ++ part 2) ∙ ap (λ z. length (part 0) + z) (length-append (part 1) (part 2))

  -- each part has its length
  pub exact : Exact (length piece) 0 (length (part 0)) × Exact (length piece) 1 (length (part 1)) × Exact (length piece) 2 (length (part 2))
  exact = sizes (length piece) (length (part 0)) (length (part 1)) (length (part 2)) joined (fit 0) (fit 1) (fit 2)

  three : (part_of piece 0 ≡ part 0) × (part_of piece 1 ≡ part 1) × (part_of piece 2 ≡ part 2)
  unfolding piece_in
  three = let e = exact in three_parts (part 0) (part 1) (part 2) (length piece) joined e.0 e.1 e.2

  -- the parts that are found are those of the piece
  pub part_is : (k : ℕ) → k < 3 → part_of piece k ≡ part k
  part_is k l =
      let all = three in
      let P : ℕ → Type 0 = λ z. part_of piece z ≡ part z in
      elim (cases_eq k 0) [
        | inl e ↦ subst P (sym e) all.0
        | inr ne ↦ elim (cases_eq k 1) [
          | inl e ↦ subst P (sym e) all.1
          | inr ne' ↦ let e : k ≡ 2 = omega (arith, ne, ne') in subst P (sym e) all.2
        ]
      ]

  -- without a first part there is nothing
  pub none_first : NonePart blocks count s n 0 → length piece ≡ 0
  none_first h = let z = ap length (none_part blocks count s n 0 h) in let e = exact.0 in omega arith

  -- what a block of the place says of the piece
  pub block_says : (i : ℕ) → i < count → sits (blocks i) s n ≡ true → (s < 8) × (n < 64) × (0 < length piece) × (length piece ≤ 1448)
  block_says i l h =
      let is = sits_says (blocks i) s n h in
      let found = part_found (blocks i) (sound.lawful i l) is.0 in
      let e = whole_at i l h in
      (omega (arith, found.slot_fits, is.1), omega (arith, found.number_fits, is.2), omega (arith, found.part_begins), omega (arith, found.whole_fits))

  -- a place out of range holds nothing, and a piece has a length in range
  pub piece_cases : NoneSits blocks count s n ⊎ ((s < 8) × (n < 64) × (0 < length piece) × (length piece ≤ 1448))
  piece_cases =
      elim (pick_cases (λ i. sits (blocks i) s n) (λ _. []) count) [
        | inl none ↦ inl none
        | inr some ↦ inr (block_says some.0 some.1 some.2)
      ]

  pub piece_short : length piece ≤ 1448
  piece_short = elim piece_cases [ inl none ↦ rw (none_piece blocks count s n none) (omega arith) | inr f ↦ f.3 ]

  -- a place that holds nothing has no block
  pub none_sits : length piece ≡ 0 → NoneSits blocks count s n
  none_sits e = elim piece_cases [ inl none ↦ none | inr f ↦ absurd (omega arith) ]

  -- a part of the piece, as it is found
  pub part_there : (k long : ℕ) (found : List ℕ) → k < cost 500 long → long ≡ length piece → found ≡ part k
      → (k * 500 < length piece) × (found ≡ part_of piece k) × (k * 500 + length found ≤ length piece)
  part_there k long found l e h =
      let h' : k < cost 500 (length piece) = subst (λ (z : ℕ). k < cost 500 z) e l in
      let begins = part_begins (length piece) k h' in
      let is : found ≡ part_of piece k = h ∙ sym (part_is k (parts_three (length piece) k piece_short h')) in
      (begins, is, omega (arith, ap length is, length_part piece k))

module _ (blocks : Units) (count : ℕ) (sound : Sound blocks count) where
  -- the blocks used are the units that the pieces cost
  pub held_used : units_held 500 (piece_in blocks count) ≡ count_of (λ i. is_used (blocks i)) count
  held_used =
      held_counts 500 (piece_in blocks count) (λ i. is_used (blocks i)) (λ i. slot_in (blocks i)) (λ i. number_in (blocks i)) count
      (λ i l u. let f = part_found (blocks i) (sound.lawful i l) u in (f.slot_fits, f.number_fits)) sound.counts

  pub sound_tidy : Tidy 500 count (piece_in blocks count)
  sound_tidy = record {
    unit_some = omega arith;
    pieces_fit = λ s n. piece_short blocks count sound s n;
    slots_fit = λ s n l. elim (piece_cases blocks count sound s n) [ inl none ↦ none_piece blocks count s n none | inr f ↦ absurd (omega arith) ];
    numbers_fit = λ s n l. elim (piece_cases blocks count sound s n) [ inl none ↦ none_piece blocks count s n none | inr f ↦ absurd (omega arith) ];
    units_fit = let h = held_used in let l = count_le (λ i. is_used (blocks i)) count in omega arith;
  }

  -- where the units suffice, there are as many free blocks
  pub room_is : (n : ℕ) → 0 < n → cost 500 n ≤ free_units 500 count (piece_in blocks count) → cost 500 n + count_of (λ i. is_used (blocks i)) count ≤ count
  room_is n some l = let h = held_used in let k = cost_is n in omega arith
