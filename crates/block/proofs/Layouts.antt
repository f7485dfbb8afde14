-- A block is lawful just where its fields are found so.
use Rattle.std.proofs.Common.{◌≡◌, ℕ, ◌+◌, ◌-◌, ◌/◌, ◌%◌, ◌<◌, ◌≤◌, List, [], ◌∷◌, ◌++◌, length, get_or, take, drop, replicate, sym, refl, ap, ◌∙◌, subst, inl, inr, arith}
use Rattle.std.proofs.lemmas.List.{ext_get_or, length-append, length-drop, length-replicate, length-take-le, get_or-take, get_or-drop, get_or-replicate, get_or_append_left, get_or-append_right, take_at, take_all, take-append-drop}
use Rattle.std.proofs.Math.Seq.{take-add}
use Rattle.std.proofs.lemmas.Bool.{cases_eq}
use Rattle.wire.specs.declared.order.ByteOrder.TheVariants.{Big}
use Rattle.wire.specs.Numbers.{Octets, digits}
use Rattle.wire.proofs.Fronts.{elements, take_elements}
use Rattle.wire.proofs.Numbers.{digits_number, octets_stretch}
use Rattle.block.specs.Limits.{block_length, check_start}
use Rattle.block.specs.Check.{check_of}
use Rattle.block.specs.Blocks.{Part, InRange, free_front, used_front, sealed, Lawful, free, used}
use Rattle.block.specs.Fields.{word_at, slot_in, number_in, index_in, length_in, whole_in, ZeroFrom, Sealed, PartFound, FoundLawful}
use Rattle.block.proofs.Checks.{check_lt}
use Rattle.block.proofs.Octets.{octets_none, octets_more, octets_append, octets_zeros}

-- the bytes of the number in two bytes are these bytes
word_digits : (xs : List ℕ) (k : ℕ) → Octets xs → digits Big 2 (word_at xs k) ≡ get_or xs k 0 ∷ get_or xs (k + 1) 0 ∷ []
word_digits xs k o =
    digits_number Big (get_or xs k 0 ∷ get_or xs (k + 1) 0 ∷ [])
    (octets_more (get_or xs k 0) (get_or xs (k + 1) 0 ∷ []) (o k) (octets_more (get_or xs (k + 1) 0) [] (o (k + 1)) octets_none))

sealed_found : (xs : List ℕ) → Octets xs → length xs ≡ block_length → Sealed xs → xs ≡ sealed (take check_start xs)
sealed_found xs o l s =
    let end : drop check_start xs ≡ elements 2 check_start xs =
    sym (take_all 2 (drop check_start xs) (omega (arith, length-drop check_start xs))) ∙ take_elements 2 check_start xs (omega arith) in
    sym (take-append-drop check_start xs) ∙ ap (λ t. take check_start xs ++ t) (end ∙ (sym (word_digits xs check_start o) ∙ ap (digits Big 2) s))

-- zeros, element by element
zeros_are : (xs : List ℕ) (n : ℕ) → length xs ≡ n → ((k : ℕ) → k < n → get_or xs k 0 ≡ 0) → xs ≡ replicate n 0
zeros_are xs n l h =
    ext_get_or 0 xs (replicate n 0) (l ∙ sym (length-replicate n 0))
    (λ k b. let c : k < n = omega arith in h k c ∙ sym (get_or-replicate n k 0 0 c))

free_found : (xs : List ℕ) → length xs ≡ block_length → ZeroFrom xs 0 → take check_start xs ≡ free_front
unfolding free_front
free_found xs l z = zeros_are (take check_start xs) check_start (length-take-le check_start xs (omega arith)) (λ k b. get_or-take check_start xs k 0 b ∙ z k (omega arith) b)

-- the part that a block is found to hold
abbrev pub part_in : List ℕ → Part
part_in xs = record {
  slot = slot_in xs;
  number = number_in xs;
  index = index_in xs;
  whole = whole_in xs;
  octets = take (length_in xs) (drop 8 xs);
}

length_found : (xs : List ℕ) → length xs ≡ block_length → PartFound xs → length (part_in xs).octets ≡ length_in xs
length_found xs l f = length-take-le (length_in xs) (drop 8 xs) (let d = length-drop 8 xs in let e = f.length_is in omega arith)

used_found : (xs : List ℕ) → Octets xs → length xs ≡ block_length → get_or xs 0 0 ≡ 1 → PartFound xs → take check_start xs ≡ used_front (part_in xs)
used_found xs o l u f =
    let n = length_in xs in
    let body = drop 8 xs in
    let k : length (part_in xs).octets ≡ n = length_found xs l f in
    let small : n ≤ 500 = let e = f.length_is in omega arith in
    let cut : n + (502 - n) ≡ 502 = omega arith in
    let after : length (drop n body) ≡ 504 - n = length-drop n body ∙ ap (λ t. t - n) (length-drop 8 xs ∙ ap (λ t. t - 8) l) in
    let fields : take 8 xs ≡ elements 8 0 xs = take_elements 8 0 xs (omega arith) in
    let zeros : take (502 - n) (drop n body) ≡ replicate (502 - n) 0 =
    zeros_are (take (502 - n) (drop n body)) (502 - n) (length-take-le (502 - n) (drop n body) (omega arith))
    (λ i b. get_or-take (502 - n) (drop n body) i 0 b ∙ (get_or-drop n body i 0 ∙ (get_or-drop 8 xs (n + i) 0 ∙ f.rest_zero (8 + (n + i)) (omega arith) (omega arith)))) in
    let rest : take 502 body ≡ take n body ++ replicate (502 - n) 0 =
    ap (λ t. take t body) (sym cut) ∙ (take-add n (502 - n) body ∙ ap (λ t. take n body ++ t) zeros) in
    let split : take check_start xs ≡ elements 8 0 xs ++ (take n body ++ replicate (502 - n) 0) =
    take-add 8 502 xs ∙ (ap (λ t. t ++ take 502 body) fields ∙ ap (λ t. elements 8 0 xs ++ t) rest) in
    let o4 = o 4 in
    let o5 = o 5 in
    let o6 = o 6 in
    let o7 = o 7 in
    let high : length (part_in xs).octets / 256 % 256 ≡ get_or xs 4 0 = omega arith in
    let low : length (part_in xs).octets % 256 ≡ get_or xs 5 0 = omega arith in
    let whole_high : whole_in xs / 256 % 256 ≡ get_or xs 6 0 = omega arith in
    let whole_low : whole_in xs % 256 ≡ get_or xs 7 0 = omega arith in
    let room : check_start - (8 + length (part_in xs).octets) ≡ 502 - n = omega arith in
    cc

found_in_range : (xs : List ℕ) → Octets xs → length xs ≡ block_length → PartFound xs → InRange (part_in xs)
found_in_range xs o l f = record {
  slot_fits = f.slot_fits;
  number_fits = f.number_fits;
  whole_fits = f.whole_fits;
  part_begins = f.part_begins;
  length_is = length_found xs l f ∙ f.length_is;
  octets_are = octets_stretch 8 (length_in xs) xs o;
}

pub lawful_found : (xs : List ℕ) → Octets xs → FoundLawful xs → Lawful xs
lawful_found xs o f =
    let whole = sealed_found xs o f.long f.sealed in
    elim (cases_eq (get_or xs 0 0) 0) [
      | inl z ↦ free (whole ∙ ap sealed (free_found xs f.long (f.free z)))
      | inr nz ↦
          let u : get_or xs 0 0 ≡ 1 = omega (arith, nz, f.state) in
          used (part_in xs) (found_in_range xs o f.long (f.used u)) (whole ∙ ap sealed (used_found xs o f.long u (f.used u)))
    ]

-- the check of a front is found behind it
sealed_reads : (front : List ℕ) → length front ≡ check_start → Sealed (sealed front)
sealed_reads front l =
    let n = check_of front in
    let b = check_lt front in
    let high : get_or (sealed front) check_start 0 ≡ n / 256 % 256 = get_or-append_right front (digits Big 2 n) check_start check_start 0 l (omega arith) in
    let low : get_or (sealed front) 511 0 ≡ n % 256 = get_or-append_right front (digits Big 2 n) check_start 511 0 l (omega arith) in
    let same : check_of (take check_start (sealed front)) ≡ n = ap check_of (take_at front (digits Big 2 n) check_start l) in
    omega arith

-- a byte of the front is found there
front_reads : (front : List ℕ) (k : ℕ) → length front ≡ check_start → k < check_start → get_or (sealed front) k 0 ≡ get_or front k 0
front_reads front k l b = get_or_append_left front (digits Big 2 (check_of front)) 0 k (omega arith)

long_reads : (front : List ℕ) → length front ≡ check_start → length (sealed front) ≡ block_length
long_reads front l = length-append front (digits Big 2 (check_of front)) ∙ ap (λ n. n + 2) l

free_reads : (front : List ℕ) → length front ≡ check_start → ((k : ℕ) → k < check_start → get_or front k 0 ≡ 0) → FoundLawful (sealed front)
free_reads front l z =
    let zero_at : (k : ℕ) → k < check_start → get_or (sealed front) k 0 ≡ 0 = λ k b. front_reads front k l b ∙ z k b in
    record {
      long = long_reads front l;
      state = omega (arith, zero_at 0 (omega arith));
      free = λ _ k _ b. zero_at k b;
      used = λ u. absurd (omega (arith, zero_at 0 (omega arith)));
      sealed = sealed_reads front l;
    }

used_reads : (p : Part) → InRange p → FoundLawful (sealed (used_front p))
used_reads p r =
    let n = length p.octets in
    let small : n ≤ 500 = let e = r.length_is in omega arith in
    let zeros : List ℕ = replicate (check_start - (8 + n)) 0 in
    let long : length (p.octets ++ zeros) ≡ 502 = length-append p.octets zeros ∙ (ap (λ t. n + t) (length-replicate {A = ℕ} (check_start - (8 + n)) 0) ∙ omega arith) in
    let l : length (used_front p) ≡ check_start = omega arith in
    let w = r.whole_fits in
    let length_read : length_in (sealed (used_front p)) ≡ n = omega arith in
    let whole_read : whole_in (sealed (used_front p)) ≡ p.whole = omega arith in
    record {
      long = long_reads (used_front p) l;
      state = omega arith;
      free = λ z. absurd (omega arith);
      used = λ _. record {
        slot_fits = r.slot_fits;
        number_fits = r.number_fits;
        whole_fits = omega arith;
        part_begins = omega (arith, r.part_begins);
        length_is = omega (arith, r.length_is);
        rest_zero = λ k a b.
            front_reads (used_front p) k l b
            ∙ (get_or-append_right (take 8 (used_front p)) (p.octets ++ zeros) 8 k 0 refl (omega arith)
            ∙ (get_or-append_right p.octets zeros n (k - 8) 0 refl (omega arith) ∙ get_or-replicate (check_start - (8 + n)) (k - 8 - n) 0 0 (omega arith)));
      };
      sealed = sealed_reads (used_front p) l;
    }

pub found_lawful : (xs : List ℕ) → Lawful xs → FoundLawful xs
unfolding free_front
found_lawful xs (free e) = subst FoundLawful (sym e) (free_reads free_front (length-replicate {A = ℕ} check_start 0) (λ k b. get_or-replicate {A = ℕ} check_start k 0 0 b))
found_lawful xs (used p r e) = subst FoundLawful (sym e) (used_reads p r)

octets_word : (n : ℕ) → Octets (digits Big 2 n)
octets_word n = octets_more (n / 256 % 256) (n % 256 ∷ []) (omega arith) (octets_more (n % 256) [] (omega arith) octets_none)

octets_sealed : (front : List ℕ) → Octets front → Octets (sealed front)
octets_sealed front o = octets_append front (digits Big 2 (check_of front)) o (octets_word (check_of front))

octets_used : (p : Part) → InRange p → Octets (used_front p)
octets_used p r =
    let n = length p.octets in
    let zeros : List ℕ = replicate (check_start - (8 + n)) 0 in
    let body : List ℕ = digits Big 2 p.whole ++ (p.octets ++ zeros) in
    let tail : List ℕ = digits Big 2 n ++ body in
    let s = r.slot_fits in
    let m = r.number_fits in
    let w = r.whole_fits in
    let b = r.part_begins in
    octets_more 1 (p.slot ∷ p.number ∷ p.index ∷ tail) (omega arith)
    (octets_more p.slot (p.number ∷ p.index ∷ tail) (omega arith)
    (octets_more p.number (p.index ∷ tail) (omega arith)
    (octets_more p.index tail (omega arith)
    (octets_append (digits Big 2 n) body (octets_word n)
    (octets_append (digits Big 2 p.whole) (p.octets ++ zeros) (octets_word p.whole)
    (octets_append p.octets zeros r.octets_are (octets_zeros (check_start - (8 + n)))))))))

-- a lawful block is of bytes
pub lawful_octets : (xs : List ℕ) → Lawful xs → Octets xs
unfolding free_front
lawful_octets xs (free e) = subst Octets (sym e) (octets_sealed free_front (octets_zeros check_start))
lawful_octets xs (used p r e) = subst Octets (sym e) (octets_sealed (used_front p) (octets_used p r))
