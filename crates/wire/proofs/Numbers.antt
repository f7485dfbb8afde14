-- The laws of `digits` and `number_of`, over the width.
use Rattle.std.proofs.Common.{◌≡◌, ℕ, zero, suc, ◌+◌, ◌-◌, ◌*◌, ◌/◌, ◌%◌, ◌^◌, ◌<◌, ◌≤◌, List, [], ◌∷◌, reverse, length, take, drop, sym, refl, ap, ◌∙◌, ⊎_elim, pow-suc, arith, lit<}
use native.Mathlib.Nat.{pow-zero}
use Rattle.std.proofs.lemmas.List.{reverse-reverse, length-reverse, get_or-reverse, get_or_past, get_or-take, get_or-drop, length-take}
use Rattle.std.proofs.lemmas.Bool.{cases_lt}
use Rattle.wire.specs.declared.order.ByteOrder.{ByteOrder}
use Rattle.wire.specs.declared.order.ByteOrder.TheVariants.{Big, Little}
use Rattle.wire.specs.Numbers.{Octets, low_digits, digits, low_number, number_of}

length_low_digits : (k n : ℕ) → length (low_digits k n) ≡ k
length_low_digits zero n = refl
length_low_digits (suc k) n = ap suc (length_low_digits k (n / 256))

pub length_digits : (o : ByteOrder) (k n : ℕ) → length (digits o k n) ≡ k
length_digits Little k n = length_low_digits k n
length_digits Big k n = length-reverse (low_digits k n) ∙ length_low_digits k n

low_number_digits : (k n : ℕ) → n < 256 ^ k → low_number (low_digits k n) ≡ n
low_number_digits zero n h = let p = pow-zero 256 in omega arith
low_number_digits (suc k) n h =
    let p = pow-suc 256 k in
    let l : n / 256 < 256 ^ k = omega arith in
    let e = low_number_digits k (n / 256) l in
    omega arith

-- a number is read back from its bytes
pub number_digits : (o : ByteOrder) (k n : ℕ) → n < 256 ^ k → number_of o (digits o k n) ≡ n
number_digits Little k n h = low_number_digits k n h
number_digits Big k n h = ap low_number (reverse-reverse (low_digits k n)) ∙ low_number_digits k n h

low_digits_number : (xs : List ℕ) → Octets xs → low_digits (length xs) (low_number xs) ≡ xs
low_digits_number [] h = refl
low_digits_number (x ∷ xs) h =
    let b : x < 256 = h 0 in
    let r : (x + 256 * low_number xs) % 256 ≡ x = omega arith in
    let q : (x + 256 * low_number xs) / 256 ≡ low_number xs = omega arith in
    let i : low_digits (length xs) (low_number xs) ≡ xs = low_digits_number xs (λ i. h (suc i)) in
    cc

octets_reverse : (xs : List ℕ) → Octets xs → Octets (reverse xs)
octets_reverse xs h i = ⊎_elim
    (λ l. rw (get_or-reverse xs i 0 l) (h (length xs - 1 - i)))
    (λ l. rw (get_or_past (reverse xs) i 0 (rw length-reverse l)) (lit< tt))
    (cases_lt i (length xs))

-- bytes are those of the number that they stand for
pub digits_number : (o : ByteOrder) (xs : List ℕ) → Octets xs → digits o (length xs) (number_of o xs) ≡ xs
digits_number Little xs h = low_digits_number xs h
digits_number Big xs h =
    ap (λ k. reverse (low_digits k (low_number (reverse xs)))) (sym (length-reverse xs))
    ∙ (ap reverse (low_digits_number (reverse xs) (octets_reverse xs h)) ∙ reverse-reverse xs)

-- a stretch of bytes is of bytes
pub octets_stretch : (k n : ℕ) (xs : List ℕ) → Octets xs → Octets (take n (drop k xs))
octets_stretch k n xs h i = ⊎_elim
    (λ l. rw (get_or-take n (drop k xs) i 0 l, get_or-drop k xs i 0) (h (k + i)))
    (λ (l : n ≤ i). rw (get_or_past (take n (drop k xs)) i 0 (rw length-take (omega arith))) (lit< tt))
    (cases_lt i n)
