-- Lists of bytes.
use Rattle.std.proofs.Common.{ℕ, zero, suc, ◌<◌, List, [], ◌∷◌, ◌++◌, replicate, arith}
use Rattle.wire.specs.Numbers.{Octets}

pub octets_none : Octets []
octets_none i = omega arith

pub octets_more : (x : ℕ) (xs : List ℕ) → x < 256 → Octets xs → Octets (x ∷ xs)
octets_more x xs l o zero = l
octets_more x xs l o (suc i) = o i

pub octets_append : (xs ys : List ℕ) → Octets xs → Octets ys → Octets (xs ++ ys)
octets_append [] ys o p = p
octets_append (x ∷ xs) ys o p = octets_more x (xs ++ ys) (o 0) (octets_append xs ys (λ i. o (suc i)) p)

pub octets_zeros : (n : ℕ) → Octets (replicate n 0)
octets_zeros zero = octets_none
octets_zeros (suc n) = octets_more 0 (replicate n 0) (omega arith) (octets_zeros n)
