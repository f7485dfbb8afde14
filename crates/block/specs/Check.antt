-- The check of bytes: the CRC-16 with the polynomial 0x1021 from 0xFFFF on, bit by bit, nothing reflected or inverted.
use Rattle.std.specs.Prelude.{◌≡◌, ℕ, zero, suc, ◌*◌, ◌%◌, ◌<◌, cond, List, [], ◌∷◌, fold, bit_xor, nat_le, slice_index}

-- one bit goes out at the top, and takes the polynomial along where it is 1
abbrev pub shifted : ℕ → ℕ
shifted r = cond (nat_le 0x8000 r) (bit_xor (r * 2 % 0x10000) 0x1021) (r * 2 % 0x10000)

-- the same for n bits
unfoldable pub shifts : ℕ → ℕ → ℕ
shifts zero r = r
shifts (suc n) r = shifts n (shifted r)

-- one byte comes in at the top
abbrev pub taken_in : ℕ → ℕ → ℕ
taken_in r b = shifts 8 (bit_xor r (b * 256))

-- a table has for each byte the state to which it leads from 0
unfoldable pub TableRule : List ℕ → Type 0
TableRule table = (k : ℕ) → k < 256 → slice_index table k ≡ taken_in 0 k

-- all bytes come in, the first one first
unfoldable pub check_of : List ℕ → ℕ
check_of xs = fold taken_in 0xFFFF xs

-- the value that is published for these parameters, of the text 123456789
abbrev pub PublishedCheck : Type 0
PublishedCheck = check_of (0x31 ∷ 0x32 ∷ 0x33 ∷ 0x34 ∷ 0x35 ∷ 0x36 ∷ 0x37 ∷ 0x38 ∷ 0x39 ∷ []) ≡ 0x29B1
