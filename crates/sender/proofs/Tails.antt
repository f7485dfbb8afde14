-- How a portion is split: what the first body lacks, the bodies after it, and what is left.
use Rattle.std.proofs.lemmas.Grind.{common_steps}
use Rattle.std.proofs.Common.{◌≡◌, ℕ, ◌+◌, ◌-◌, ◌*◌, ◌/◌, ◌<◌, ◌≤◌, List, ◌++◌, length, take, drop, sym, ap, ◌∙◌, arith}
use Rattle.std.specs.List.{refill}
use Rattle.std.proofs.Math.Nat.{mul-div_left}
use Rattle.std.proofs.Math.Seq.{take-add}
use Rattle.std.proofs.lemmas.List.{drop-drop, length-drop, drop_at, take_at}
use Rattle.std.proofs.lemmas.Nat.{le-div}
use Rattle.sender.specs.Sending.{sure}

-- where more came than a body holds, a packet is sure
pub some_sure : (L n k : ℕ) → 0 < L → L < n → k ≡ sure L n → 0 < k
some_sure L n k p m e = let d = le-div 1 (n - 1) L p (omega arith) in omega arith

-- what a tail holds after a write of its elements as a slice
pub written_over : (t new left : List ℕ) → length new ≡ length t → new ≡ left → refill (length t) t new ≡ left
written_over t new left l e = take_at new (drop (length new) t) (length t) l ∙ e

-- the portion q, after the bytes t that were held, where n packets of L bytes are sure
pub record Split (L n : ℕ) (t q missing bodies left : List ℕ) : Type 0 where
  pub many : n ≡ sure L (length t + length q)
  pub low : n * L < length t + length q
  pub first_long : length (t ++ missing) ≡ L
  pub bodies_count : length bodies / L + 1 ≡ n
  pub bodies_are : (t ++ missing) ++ bodies ≡ take (n * L) (t ++ q)
  pub left_is : left ≡ drop (n * L) (t ++ q)
  pub left_long : length left ≤ L

module _ (L h n : ℕ) (t q missing rest bodies left : List ℕ)
    (some : 0 < L) (within : length t ≤ L) (more : 0 < n) (held : h ≡ length t) (many : n ≡ sure L (h + length q))
    (missing_is : missing ≡ take (L - h) q) (rest_is : rest ≡ drop (L - h) q)
    (bodies_is : bodies ≡ take ((n - 1) * L) rest) (left_is : left ≡ drop ((n - 1) * L) rest) where
  low : n * L < h + length q
  low = grind (arith, common_steps)

  high : h + length q ≤ n * L + L
  high = grind (arith, common_steps)

  first_long : length (t ++ missing) ≡ L
  first_long = grind (arith, common_steps)

  rest_long : length rest ≡ length q - (L - h)
  rest_long = grind (arith, common_steps)

  bodies_long : length bodies ≡ (n - 1) * L
  bodies_long = grind (arith, common_steps)

  joined : (t ++ missing) ++ rest ≡ t ++ q
  joined = grind (arith, common_steps)

  pub split : Split L n t q missing bodies left
  split =
      let m : L + (n - 1) * L ≡ n * L = grind (arith, common_steps) in
      let l = low in
      let u = high in
      let r = rest_long in
      let quotient : length bodies / L ≡ n - 1 = ap (λ i. i / L) bodies_long ∙ mul-div_left (n - 1) some in
      let after : rest ≡ drop L (t ++ q) = sym (ap (drop L) (sym joined) ∙ drop_at (t ++ missing) rest L first_long) in
      let front : t ++ missing ≡ take L (t ++ q) = sym (ap (take L) (sym joined) ∙ take_at (t ++ missing) rest L first_long) in
      let left_long = ap length left_is ∙ length-drop ((n - 1) * L) rest in
      record {
        many = many ∙ ap (λ i. sure L (i + length q)) held;
        low = omega arith;
        first_long = first_long;
        bodies_count = omega arith;
        bodies_are = ap (λ y. (t ++ missing) ++ y) (bodies_is ∙ ap (take ((n - 1) * L)) after)
            ∙ (ap (λ y. y ++ take ((n - 1) * L) (drop L (t ++ q))) front
            ∙ (sym (take-add L ((n - 1) * L) (t ++ q)) ∙ ap (λ i. take i (t ++ q)) m));
        left_is = left_is ∙ (ap (drop ((n - 1) * L)) after ∙ (drop-drop ((n - 1) * L) L (t ++ q) ∙ ap (λ i. drop i (t ++ q)) m));
        left_long = omega arith;
      }
