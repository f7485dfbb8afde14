-- The units of a memory, byte by byte, and a write to one of them.
use Rattle.std.proofs.Common.{◌++◌, ◌≡◌, ℕ, zero, suc, ◌+◌, ◌-◌, ◌*◌, ◌<◌, ◌≤◌, List, length, get_or, take, drop, sym, ap, ◌∙◌, inl, inr, arith, get_or-drop, get_or-take, rules}
use borrow.Rule.Slice.PartMut.{put_mid}
use Rattle.std.specs.Simd.{first_chunks}
use Rattle.std.proofs.Math.Nat.{mul-le-mul_right}
use Rattle.std.proofs.lemmas.List.{ext_get_or, drop-drop, drop-take, take-take, take_at, length-drop, length-take, length-take-le, places}
use Rattle.std.proofs.lemmas.Slice.{overwrites, drop-append-drop}
use Rattle.std.proofs.lemmas.Bool.{cases_lt}
use Rattle.shelf.specs.Memories.{nth_unit, unit_at, OneUnit}

-- the units of a memory as arrays
pub chunk_is : (n c i : ℕ) (m : List ℕ) → i < c → nth_unit (first_chunks n c m) i ≡ take n (drop (i * n) m)
chunk_is n zero i m l = absurd (omega arith)
chunk_is n (suc c) zero m l = let e : 0 * n ≡ 0 = omega arith in rw e
chunk_is n (suc c) (suc i) m l = chunk_is n c i (drop n m) (omega arith) ∙ ap (take n) (drop-drop (i * n) n m ∙ ap (λ k. drop k m) (omega arith))

pub unit_is : (n c i : ℕ) (m : List ℕ) → i < c → nth_unit (first_chunks n c m) i ≡ unit_at n m i
unfolding unit_at
unit_is n c i m l = chunk_is n c i m l

-- unit i ends before unit j begins
pub unit_before : (n i j : ℕ) → i < j → i * n + n ≤ j * n
unit_before n i j l = let e : (i + 1) * n ≤ j * n = mul-le-mul_right n (omega arith) in omega arith

-- bytes that are the same from a on
pub same_after : (m w : List ℕ) (a : ℕ) → length w ≡ length m → ((k : ℕ) → a ≤ k → get_or w k 0 ≡ get_or m k 0) → drop a w ≡ drop a m
same_after m w a e h =
    ext_get_or 0 (drop a w) (drop a m) (length-drop a w ∙ (ap (λ n. n - a) e ∙ sym (length-drop a m)))
    (λ i l. get_or-drop a w i 0 ∙ (h (a + i) (omega arith) ∙ sym (get_or-drop a m i 0)))

module _ (n : ℕ) where
  pub unit_octet : (m : List ℕ) (i k : ℕ) → k < n → get_or (unit_at n m i) k 0 ≡ get_or m (i * n + k) 0
  unfolding unit_at
  unit_octet m i k l = get_or-take n (drop (i * n) m) k 0 l ∙ get_or-drop (i * n) m k 0

  pub unit_long : (m : List ℕ) (i : ℕ) → i * n + n ≤ length m → length (unit_at n m i) ≡ n
  unfolding unit_at
  unit_long m i l = length-take-le n (drop (i * n) m) (omega (arith, length-drop (i * n) m))

  unit_short : (m : List ℕ) (i : ℕ) → length (unit_at n m i) ≤ n
  unfolding unit_at
  unit_short m i = simp length-take (omega arith)

  unit_size : (m w : List ℕ) (i : ℕ) → length w ≡ length m → length (unit_at n w i) ≡ length (unit_at n m i)
  unfolding unit_at
  unit_size m w i e = simp (length-take, length-drop) (omega arith)

  -- a unit whose bytes are the same is the same
  pub unit_same : (m w : List ℕ) (i : ℕ) → length w ≡ length m
      → ((k : ℕ) → k < n → get_or w (i * n + k) 0 ≡ get_or m (i * n + k) 0) → unit_at n w i ≡ unit_at n m i
  unit_same m w i e h =
      ext_get_or 0 (unit_at n w i) (unit_at n m i) (unit_size m w i e)
      (λ k l. let b : k < n = omega (arith, unit_short w i) in unit_octet w i k b ∙ h k b ∙ sym (unit_octet m i k b))

  -- what a memory holds after a write to one of its units
  module _ (m ys : List ℕ) (j : ℕ) (fits : j * n + n ≤ length m) (long : length ys ≡ n) where
    abbrev written : List ℕ
    written = put_mid (j * n) (j * n + n - j * n) m ys

    pub long_written : length written ≡ length m
    long_written = search (rules, overwrites)

    inside : (k : ℕ) → k < n → get_or written (j * n + k) 0 ≡ get_or ys k 0
    inside = search (rules, places)

    below : (k : ℕ) → k < j * n → get_or written k 0 ≡ get_or m k 0
    below = search (rules, places)

    above : (k : ℕ) → j * n + n ≤ k → get_or written k 0 ≡ get_or m k 0
    above = search (rules, places)

    pub unit_here : unit_at n written j ≡ ys
    unit_here =
        let size : length (unit_at n written j) ≡ n = unit_long written j (omega (arith, long_written)) in
        ext_get_or 0 (unit_at n written j) ys (size ∙ sym long)
        (λ k l. let b : k < n = omega (arith, size) in unit_octet written j k b ∙ inside k b)

    pub one_unit : OneUnit n m j written
    one_unit = record {
      size = long_written;
      others = λ i ne. unit_same m written i long_written (λ k l. elim (cases_lt i j) [
        | inl low ↦ below (i * n + k) (omega (arith, unit_before n i j low))
        | inr high ↦ above (i * n + k) (omega (arith, ne, unit_before n j i (omega (arith, ne))))
      ]);
      past = above;
    }

    pub written_rest : (count : ℕ) → j < count → drop (count * n) written ≡ drop (count * n) m
    written_rest count l = same_after m written (count * n) long_written (λ k h. above k (omega (arith, unit_before n j count l)))

-- the first units of a memory, and what they are once that part of it is written
module _ (n count : ℕ) (m : List ℕ) where
  pub front_unit : (i : ℕ) → i < count → unit_at n (take (count * n) m) i ≡ unit_at n m i
  unfolding unit_at
  front_unit i l =
      let within = unit_before n i count l in
      let r = count * n - i * n in
      let e : count * n ≡ i * n + r = omega arith in
      ap (λ k. take n (drop (i * n) (take k m))) e ∙ (ap (take n) (drop-take (i * n) r m) ∙ take-take n r (drop (i * n) m) (omega arith))

  pub chunk_unit : (c i : ℕ) → i < c → i < count → nth_unit (first_chunks n c (take (count * n) m)) i ≡ unit_at n m i
  chunk_unit c i l h = unit_is n c i (take (count * n) m) l ∙ front_unit i h

  pub behind_unit : (ys : List ℕ) (i : ℕ) → length ys ≡ count * n → count ≤ i → unit_at n (ys ++ drop (count * n) m) i ≡ unit_at n m i
  unfolding unit_at
  behind_unit ys i e l = ap (take n) (drop-append-drop (count * n) m ys (i * n) (mul-le-mul_right n l) e)

pub written_unit : (n count : ℕ) (ys rest : List ℕ) (i : ℕ) → length ys ≡ count * n → i < count → unit_at n (ys ++ rest) i ≡ unit_at n ys i
written_unit n count ys rest i e l =
    sym (front_unit n count (ys ++ rest) i l) ∙ ap (λ t. unit_at n t i) (take_at ys rest (count * n) e)
