-- The blocks of a dump, byte by byte.
use Rattle.std.proofs.Common.{◌≡◌, ℕ, zero, suc, ◌+◌, ◌*◌, ◌<◌, ◌≤◌, List, length, get_or, take, drop, count_by, sym, refl, ap, ◌∙◌, arith, get_or-drop, get_or-take, inl, inr, add-one, []}
use Rattle.std.specs.Simd.{first_chunks}
use Rattle.std.proofs.lemmas.List.{ext_get_or, length-drop, length-take, length-take-le, get_or_past, drop-drop, take_all}
use Rattle.std.proofs.lemmas.List.Sums.{count_by_more_yes, count_by_more_no}
use Rattle.std.proofs.lemmas.Bool.{cases_Bool}
use Rattle.block.specs.Limits.{block_length}
use Rattle.block.specs.Dumps.{block_at, is_used, used_among}

pub block_octet : (m : List ℕ) (i k : ℕ) → k < block_length → get_or (block_at m i) k 0 ≡ get_or m (i * block_length + k) 0
unfolding block_at
block_octet m i k l = get_or-take block_length (drop (i * block_length) m) k 0 l ∙ get_or-drop (i * block_length) m k 0

pub block_long : (m : List ℕ) (i : ℕ) → i * block_length + block_length ≤ length m → length (block_at m i) ≡ block_length
unfolding block_at
block_long m i l = length-take-le block_length (drop (i * block_length) m) (omega (arith, length-drop (i * block_length) m))

pub block_short : (m : List ℕ) (i : ℕ) → length (block_at m i) ≤ block_length
unfolding block_at
block_short m i = simp length-take (omega arith)

block_size : (m w : List ℕ) (i : ℕ) → length w ≡ length m → length (block_at w i) ≡ length (block_at m i)
unfolding block_at
block_size m w i e = simp (length-take, length-drop) (omega arith)

-- a block whose bytes are the same is the same
pub block_same : (m w : List ℕ) (i : ℕ) → length w ≡ length m
    → ((k : ℕ) → k < block_length → get_or w (i * block_length + k) 0 ≡ get_or m (i * block_length + k) 0) → block_at w i ≡ block_at m i
block_same m w i e h =
    ext_get_or 0 (block_at w i) (block_at m i) (block_size m w i e)
    (λ k l. let b : k < block_length = omega (arith, block_short w i) in block_octet w i k b ∙ h k b ∙ sym (block_octet m i k b))

pub block_past : (m : List ℕ) (i k : ℕ) → block_length ≤ k → get_or (block_at m i) k 0 ≡ 0
block_past m i k l = get_or_past (block_at m i) k 0 (omega (arith, block_short m i))

-- the blocks of a dump as `as_chunks` takes them
pub chunk_at : (n : ℕ) (m : List ℕ) (i : ℕ) (d : List ℕ) → i < n → get_or (first_chunks block_length n m) i d ≡ block_at m i
unfolding block_at
chunk_at zero m i d l = absurd (omega arith)
chunk_at (suc n) m zero d l = refl
chunk_at (suc n) m (suc i) d l =
    let e : block_length + i * block_length ≡ suc i * block_length = omega arith in
    chunk_at n (drop block_length m) i d (omega arith)
    ∙ ap (take block_length) (drop-drop (i * block_length) block_length m ∙ ap (λ k. drop k m) e)

length_chunks : (n : ℕ) (m : List ℕ) → length (first_chunks block_length n m) ≡ n
length_chunks zero m = refl
length_chunks (suc n) m = ap suc (length_chunks n (drop block_length m))

used_among_front : (n : ℕ) (m : List ℕ) (k : ℕ) → k ≤ n → count_by is_used (take k (first_chunks block_length n m)) ≡ used_among m k
unfolding used_among
used_among_front n m zero l = refl
used_among_front n m (suc k) l =
    let xs : List (List ℕ) = first_chunks block_length n m in
    let here : get_or xs k [] ≡ block_at m k = chunk_at n m k [] (omega arith) in
    let within : k < length xs = omega (arith, length_chunks n m) in
    let before = used_among_front n m k (omega arith) in
    elim (cases_Bool (is_used (block_at m k))) [
      | inl t ↦ rw t (simp add-one at (count_by_more_yes is_used xs k [] within (ap is_used here ∙ t)) ∙ omega (arith, before))
      | inr f ↦ rw f (simp add-one at (count_by_more_no is_used xs k [] within (ap is_used here ∙ f)) ∙ omega (arith, before))
    ]

pub used_among_chunks : (n : ℕ) (m : List ℕ) → count_by is_used (first_chunks block_length n m) ≡ used_among m n
used_among_chunks n m = ap (count_by is_used) (sym (take_all n (first_chunks block_length n m) (omega (arith, length_chunks n m)))) ∙ used_among_front n m n (omega arith)
