-- The check tells bytes apart that differ in one place.
use Rattle.std.proofs.Common.{◌≡◌, ℕ, zero, suc, ◌+◌, ◌*◌, ◌%◌, ◌<◌, ◌≤◌, leb, List, [], ◌∷◌, length, fold, get_or, sym, refl, ap, ◌∙◌, inl, inr, arith}
use lib.Bits.{bit_xor, xor_assoc, xor_comm, xor_self, xor_zero_r, xor_mod, xor_lt}
use Rattle.std.proofs.lemmas.List.{ext_get_or}
use Rattle.std.proofs.lemmas.Bool.{cases_Bool, leb-true, leb-false}
use Rattle.wire.specs.Numbers.{Octets}
use Rattle.block.specs.Check.{shifted, shifts, taken_in, check_of}

xor_back : (a p : ℕ) → bit_xor (bit_xor a p) p ≡ a
xor_back a p = xor_assoc a p p ∙ ap (bit_xor a) (xor_self p) ∙ xor_zero_r a

xor_inj : (a b p : ℕ) → bit_xor a p ≡ bit_xor b p → a ≡ b
xor_inj a b p e = sym (xor_back a p) ∙ ap (λ x. bit_xor x p) e ∙ xor_back b p

-- the two ways of a shift tell themselves apart by the lowest bit
odd : (a : ℕ) → bit_xor (a * 2 % 0x10000) 0x1021 % 2 ≡ 1
odd a = let z : a * 2 % 0x10000 % 2 ≡ 0 = omega arith in xor_mod (a * 2 % 0x10000) 0x1021 1 ∙ ap (λ x. bit_xor x 1) z

high : (a : ℕ) → 0x8000 ≤ a → a < 0x10000 → a * 2 % 0x10000 + 0x10000 ≡ a * 2
high a h l = omega arith

low : (a : ℕ) → a < 0x8000 → a * 2 % 0x10000 ≡ a * 2
low a l = omega arith

shifted_inj : (a b : ℕ) → a < 0x10000 → b < 0x10000 → shifted a ≡ shifted b → a ≡ b
shifted_inj a b la lb e =
    elim (cases_Bool (leb 0x8000 a)) [
      | inl t ↦ elim (cases_Bool (leb 0x8000 b)) [
        | inl u ↦
            let ha = leb-true 0x8000 a t in
            let hb = leb-true 0x8000 b u in
            let same : bit_xor (a * 2 % 0x10000) 0x1021 ≡ bit_xor (b * 2 % 0x10000) 0x1021 = rw (t, u) at e in
            let back : a * 2 % 0x10000 ≡ b * 2 % 0x10000 = xor_inj (a * 2 % 0x10000) (b * 2 % 0x10000) 0x1021 same in
            omega (arith, high a ha la, high b hb lb)
        | inr u ↦
            let same : bit_xor (a * 2 % 0x10000) 0x1021 ≡ b * 2 % 0x10000 = rw (t, u) at e in
            absurd (omega (arith, odd a, ap (λ x. x % 2) same))
      ]
      | inr t ↦ elim (cases_Bool (leb 0x8000 b)) [
        | inl u ↦
            let same : a * 2 % 0x10000 ≡ bit_xor (b * 2 % 0x10000) 0x1021 = rw (t, u) at e in
            absurd (omega (arith, odd b, ap (λ x. x % 2) same))
        | inr u ↦
            let ha = leb-false 0x8000 a t in
            let hb = leb-false 0x8000 b u in
            let same : a * 2 % 0x10000 ≡ b * 2 % 0x10000 = rw (t, u) at e in
            omega (arith, low a ha, low b hb)
      ]
    ]

shifted_lt : (a : ℕ) → shifted a < 0x10000
shifted_lt a =
    elim (cases_Bool (leb 0x8000 a)) [
      | inl t ↦ rw t (xor_lt 16 (a * 2 % 0x10000) 0x1021 (omega arith) (omega arith))
      | inr t ↦ rw t (omega arith)
    ]

shifts_lt : (n a : ℕ) → a < 0x10000 → shifts n a < 0x10000
unfolding shifts
shifts_lt zero a l = l
shifts_lt (suc n) a l = shifts_lt n (shifted a) (shifted_lt a)

shifts_inj : (n a b : ℕ) → a < 0x10000 → b < 0x10000 → shifts n a ≡ shifts n b → a ≡ b
unfolding shifts
shifts_inj zero a b la lb e = e
shifts_inj (suc n) a b la lb e = shifted_inj a b la lb (shifts_inj n (shifted a) (shifted b) (shifted_lt a) (shifted_lt b) e)

in_state : (r b : ℕ) → r < 0x10000 → b < 256 → bit_xor r (b * 256) < 0x10000
in_state r b l h = xor_lt 16 r (b * 256) l (omega arith)

taken_lt : (r b : ℕ) → r < 0x10000 → b < 256 → taken_in r b < 0x10000
taken_lt r b l h = shifts_lt 8 (bit_xor r (b * 256)) (in_state r b l h)

taken_state : (r s b : ℕ) → r < 0x10000 → s < 0x10000 → b < 256 → taken_in r b ≡ taken_in s b → r ≡ s
taken_state r s b lr ls h e =
    xor_inj r s (b * 256) (shifts_inj 8 (bit_xor r (b * 256)) (bit_xor s (b * 256)) (in_state r b lr h) (in_state s b ls h) e)

taken_byte : (r a b : ℕ) → r < 0x10000 → a < 256 → b < 256 → taken_in r a ≡ taken_in r b → a ≡ b
taken_byte r a b l ha hb e =
    let same = shifts_inj 8 (bit_xor r (a * 256)) (bit_xor r (b * 256)) (in_state r a l ha) (in_state r b l hb) e in
    let back : a * 256 ≡ b * 256 = xor_inj (a * 256) (b * 256) r (xor_comm (a * 256) r ∙ same ∙ xor_comm r (b * 256)) in
    omega arith

-- over the same bytes, other states end as other states
check_state : (xs : List ℕ) (r s : ℕ) → r < 0x10000 → s < 0x10000 → Octets xs → fold taken_in r xs ≡ fold taken_in s xs → r ≡ s
check_state [] r s lr ls o e = e
check_state (x ∷ xs) r s lr ls o e =
    taken_state r s x lr ls (o 0)
    (check_state xs (taken_in r x) (taken_in s x) (taken_lt r x lr (o 0)) (taken_lt s x ls (o 0)) (λ k. o (suc k)) e)

fold_one : (xs ys : List ℕ) (r i : ℕ) → r < 0x10000 → Octets xs → Octets ys → length xs ≡ length ys
    → ((k : ℕ) → (k ≡ i → ⊥) → get_or ys k 0 ≡ get_or xs k 0) → fold taken_in r xs ≡ fold taken_in r ys → get_or ys i 0 ≡ get_or xs i 0
fold_one [] [] r i l ox oy long same e = refl
fold_one [] (y ∷ ys) r i l ox oy long same e = absurd (omega arith)
fold_one (x ∷ xs) [] r i l ox oy long same e = absurd (omega arith)
fold_one (x ∷ xs) (y ∷ ys) r zero l ox oy long same e =
    let rest : ys ≡ xs = ext_get_or 0 ys xs (omega arith) (λ k h. same (suc k) (λ z. omega arith)) in
    let o : Octets xs = λ k. ox (suc k) in
    let e' : fold taken_in (taken_in r x) xs ≡ fold taken_in (taken_in r y) xs = e ∙ ap (fold taken_in (taken_in r y)) rest in
    sym (taken_byte r x y l (ox 0) (oy 0) (check_state xs (taken_in r x) (taken_in r y) (taken_lt r x l (ox 0)) (taken_lt r y l (oy 0)) o e'))
fold_one (x ∷ xs) (y ∷ ys) r (suc i) l ox oy long same e =
    let head : y ≡ x = same 0 (λ z. omega arith) in
    let e' : fold taken_in (taken_in r x) xs ≡ fold taken_in (taken_in r x) ys = e ∙ ap (λ z. fold taken_in (taken_in r z) ys) head in
    fold_one xs ys (taken_in r x) i (taken_lt r x l (ox 0)) (λ k. ox (suc k)) (λ k. oy (suc k)) (omega arith)
    (λ k ne. same (suc k) (λ z. ne (omega arith))) e'

-- bytes that differ at most at i and have one check are the same at i
pub check_one : (xs ys : List ℕ) (i : ℕ) → Octets xs → Octets ys → length xs ≡ length ys
    → ((k : ℕ) → (k ≡ i → ⊥) → get_or ys k 0 ≡ get_or xs k 0) → check_of xs ≡ check_of ys → get_or ys i 0 ≡ get_or xs i 0
unfolding check_of
check_one xs ys i ox oy long same e = fold_one xs ys 0xFFFF i (omega arith) ox oy long same e

fold_lt : (xs : List ℕ) (r : ℕ) → r < 0x10000 → fold taken_in r xs < 0x10000
unfolding shifts
fold_lt [] r l = l
fold_lt (x ∷ xs) r l = fold_lt xs (taken_in r x) (shifts_lt 7 (shifted (bit_xor r (x * 256))) (shifted_lt (bit_xor r (x * 256))))

pub check_lt : (xs : List ℕ) → check_of xs < 0x10000
unfolding check_of
check_lt xs = fold_lt xs 0xFFFF (omega arith)
