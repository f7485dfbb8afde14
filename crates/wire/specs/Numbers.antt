-- Numbers as bytes, in either byte order.
use Rattle.std.specs.Prelude.{ℕ, zero, suc, ◌+◌, ◌*◌, ◌/◌, ◌%◌, ◌<◌, List, [], ◌∷◌, reverse, slice_index}
use Rattle.wire.specs.declared.order.ByteOrder.{ByteOrder}
use Rattle.wire.specs.declared.order.ByteOrder.TheVariants.{Big, Little}

-- each element is a byte
abbrev pub Octets : List ℕ → Type 0
Octets xs = (i : ℕ) → slice_index xs i < 256

-- the k lowest digits of n to the base 256, the lowest first
abbrev pub low_digits : ℕ → ℕ → List ℕ
low_digits zero n = []
low_digits (suc k) n = n % 256 ∷ low_digits k (n / 256)

-- n in k bytes
abbrev pub digits : ByteOrder → ℕ → ℕ → List ℕ
digits Little k n = low_digits k n
digits Big k n = reverse (low_digits k n)

-- the number of which these are the digits to the base 256, the lowest first
abbrev pub low_number : List ℕ → ℕ
low_number [] = 0
low_number (x ∷ xs) = x + 256 * low_number xs

-- the number that bytes stand for
abbrev pub number_of : ByteOrder → List ℕ → ℕ
number_of Little xs = low_number xs
number_of Big xs = low_number (reverse xs)
