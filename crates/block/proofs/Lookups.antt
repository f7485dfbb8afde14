-- A byte at a time by a table: the check takes it in as it takes in its bits.
use Rattle.std.proofs.Common.{◌≡◌, ℕ, zero, suc, ◌+◌, ◌*◌, ◌/◌, ◌%◌, ◌<◌, ◌≤◌, Bool, true, false, cond, eqb, leb, List, get_or, sym, refl, ap, ◌∙◌, inl, inr, add-zero, arith}
use lib.Bits.{bit_xor, xor_assoc, xor_comm, xor_block, xor_shifted, xor_mod, xor_shr, xor_zero_l, xor_zero_r, xor_lt}
use Rattle.std.proofs.lemmas.Bool.{leb-true, leb-false, le-leb, lt-leb, eqb-true, cases_Bool, agree_below, agree_below_at}
use Rattle.block.specs.Check.{shifted, shifts, taken_in, TableRule}

doubled : (a y : ℕ) → bit_xor a y * 2 ≡ bit_xor (a * 2) (y * 2)
doubled a y =
    let e : bit_xor (a * 2 + 0) (y * 2 + 0) ≡ bit_xor a y * 2 + 0 = xor_block 1 a y 0 0 (omega arith) (omega arith) in
    sym (simp add-zero at e)

-- a number whose top bit is 0 does not change which way a step goes
top_same : (a y : ℕ) → y < 0x8000 → leb 0x8000 (bit_xor a y) ≡ leb 0x8000 a
top_same a y h =
    let z : y / 0x8000 ≡ 0 = omega arith in
    let e : bit_xor a y / 0x8000 ≡ a / 0x8000 = xor_shr a y 15 ∙ (ap (bit_xor (a / 0x8000)) z ∙ xor_zero_r (a / 0x8000)) in
    elim (cases_Bool (leb 0x8000 a)) [
      | inl t ↦ (let k = leb-true 0x8000 a t in le-leb 0x8000 (bit_xor a y) (omega arith) ∙ sym t)
      | inr t ↦ (let k = leb-false 0x8000 a t in lt-leb 0x8000 (bit_xor a y) (omega arith) ∙ sym t)
    ]

low_same : (a y : ℕ) → y < 0x8000 → bit_xor a y * 2 % 0x10000 ≡ bit_xor (a * 2 % 0x10000) (y * 2)
low_same a y h =
    let k : y * 2 % 0x10000 ≡ y * 2 = omega arith in
    ap (λ t. t % 0x10000) (doubled a y) ∙ (xor_mod (a * 2) (y * 2) 16 ∙ ap (bit_xor (a * 2 % 0x10000)) k)

swapped : (a y p : ℕ) → bit_xor (bit_xor a y) p ≡ bit_xor (bit_xor a p) y
swapped a y p = xor_assoc a y p ∙ (ap (bit_xor a) (xor_comm y p) ∙ sym (xor_assoc a p y))

either : (t : Bool) (a y p : ℕ) → cond t (bit_xor (bit_xor a y) p) (bit_xor a y) ≡ bit_xor (cond t (bit_xor a p) a) y
either true a y p = swapped a y p
either false a y p = refl

shifted_xor : (a y : ℕ) → y < 0x8000 → shifted (bit_xor a y) ≡ bit_xor (shifted a) (y * 2)
shifted_xor a y h =
    let l = low_same a y h in
    let t = top_same a y h in
    (rw (l, t) refl) ∙ either (leb 0x8000 a) (a * 2 % 0x10000) (y * 2) 0x1021

abbrev pub twice : ℕ → ℕ → ℕ
twice zero y = y
twice (suc n) y = twice n (y * 2)

twice_up : (n y : ℕ) → y ≤ twice n y
twice_up zero y = omega arith
twice_up (suc n) y = omega (arith, twice_up n (y * 2))

pub shifts_xor : (n a y : ℕ) → twice n y < 0x10000 → shifts n (bit_xor a y) ≡ bit_xor (shifts n a) (twice n y)
unfolding shifts
shifts_xor zero a y h = refl
shifts_xor (suc n) a y h =
    let l : y < 0x8000 = omega (arith, twice_up n (y * 2)) in
    ap (shifts n) (shifted_xor a y l) ∙ shifts_xor n (shifted a) (y * 2) h

-- the rule of a table is one test that is computed
pub rule_by_test : (table : List ℕ) → agree_below (λ k. eqb (get_or table k 0) (taken_in 0 k)) (λ _. true) 256 ≡ true → TableRule table
unfolding TableRule
rule_by_test table t k h = eqb-true _ _ (agree_below_at (λ j. eqb (get_or table j 0) (taken_in 0 j)) (λ _. true) 256 k t h)

-- the low byte of a state stays where it is while the upper one is looked up
halves : (r b : ℕ) → bit_xor r (b * 256) ≡ bit_xor (bit_xor (r / 256) b * 256) (r % 256)
halves r b =
    let m : r % 256 < 256 = omega arith in
    let e : r / 256 * 256 + r % 256 ≡ r = omega arith in
    let z : b * 256 + 0 ≡ b * 256 = add-zero (b * 256) in
    let x : bit_xor (r / 256 * 256 + r % 256) (b * 256 + 0) ≡ bit_xor (r / 256) b * 256 + bit_xor (r % 256) 0 = xor_block 8 (r / 256) b (r % 256) 0 m (omega arith) in
    let s : bit_xor (bit_xor (r / 256) b * 256) (r % 256) ≡ bit_xor (r / 256) b * 256 + r % 256 = xor_shifted (bit_xor (r / 256) b) 8 (r % 256) m in
    let y : bit_xor (r % 256) 0 ≡ r % 256 = xor_zero_r (r % 256) in
    cc (e, z, x, s, y)

pub index_small : (r b : ℕ) → r < 0x10000 → b < 256 → bit_xor (r / 256) b < 256
index_small r b h k = xor_lt 8 (r / 256) b (omega arith) k

pub by_table : (table : List ℕ) → TableRule table → (r b : ℕ) → r < 0x10000 → b < 256
    → bit_xor (get_or table (bit_xor (r / 256) b) 0) (r * 256 % 0x10000) ≡ taken_in r b
unfolding TableRule
by_table table rule r b h k =
    let i = bit_xor (r / 256) b in
    let e : taken_in r b ≡ shifts 8 (bit_xor (i * 256) (r % 256)) = ap (shifts 8) (halves r b) in
    let x : shifts 8 (bit_xor (i * 256) (r % 256)) ≡ bit_xor (shifts 8 (i * 256)) (twice 8 (r % 256)) = shifts_xor 8 (i * 256) (r % 256) (omega arith) in
    let l : get_or table i 0 ≡ shifts 8 (i * 256) = rule i (index_small r b h k) ∙ ap (shifts 8) (xor_zero_l (i * 256)) in
    let w : twice 8 (r % 256) ≡ r * 256 % 0x10000 = omega arith in
    sym (e ∙ (x ∙ (ap (λ u. bit_xor u (twice 8 (r % 256))) (sym l) ∙ ap (bit_xor (get_or table i 0)) w)))
