-- What the pieces of a slot cost.
use Rattle.std.proofs.Common.{◌≡◌, ℕ, ◌+◌, ◌<◌, List, [], length, ap, ◌∙◌, arith}
use Rattle.wire.specs.Limits.{max_packets}
use Rattle.shelf.specs.Units.{cost}
use Rattle.shelf.proofs.Totals.{total_none, total_same, total_bump}
use Rattle.shelf.proofs.Helds.{cost_none}
use Rattle.receiver.specs.Slots.{row, Bare}

pub row_none : (unit : ℕ) (piece : ℕ → List ℕ) → 0 < unit → Bare piece → row unit piece ≡ 0
row_none unit piece some e = total_none _ max_packets (λ n lt. ap (λ (x : List ℕ). cost unit (length x)) (e n) ∙ cost_none unit some)

pub row_same : (unit : ℕ) (piece piece' : ℕ → List ℕ) → ((n : ℕ) → piece' n ≡ piece n) → row unit piece' ≡ row unit piece
row_same unit piece piece' e = total_same _ _ max_packets (λ n lt. ap (λ (x : List ℕ). cost unit (length x)) (e n))

-- one piece more
pub row_put : (unit : ℕ) (piece piece' : ℕ → List ℕ) (n : ℕ) (bytes : List ℕ) → 0 < unit → n < max_packets → piece n ≡ [] → piece' n ≡ bytes
    → ((m : ℕ) → (m ≡ n → ⊥) → piece' m ≡ piece m) → row unit piece' ≡ cost unit (length bytes) + row unit piece
row_put unit piece piece' n bytes some lt none here there =
    let was : cost unit (length (piece n)) ≡ 0 = ap (λ (x : List ℕ). cost unit (length x)) none ∙ cost_none unit some in
    let is : cost unit (length (piece' n)) ≡ cost unit (length bytes) = ap (λ (x : List ℕ). cost unit (length x)) here in
    total_bump _ _ n (cost unit (length bytes)) max_packets lt (omega (arith, was, is)) (λ m ne. ap (λ (x : List ℕ). cost unit (length x)) (there m ne))
