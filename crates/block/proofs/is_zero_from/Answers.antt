use Rattle.std.proofs.Common.{◌≡◌, ◌↔◌, ℕ, ◌+◌, ◌-◌, ◌<◌, IsTrue, All, List, length, get_or, take, drop, sym, ap, ◌∙◌, arith, rules, get_or-take, get_or-drop}
use Rattle.std.proofs.lemmas.List.{get_or_default}
use Rattle.block.specs.Limits.{check_start}
use Rattle.block.specs.Fields.{ZeroFrom}
use Rattle.block.proofs.is_zero_from.Goals as goal

-- ys are the bytes of xs from `at` up to the check
zeros_from : (xs ys : List ℕ) (at : ℕ) → at + length ys ≡ check_start
    → ((k : ℕ) → k < length ys → get_or ys k 0 ≡ get_or xs (at + k) 0)
    → All (λ x. x ≡ 0) ys ↔ ZeroFrom xs at
zeros_from xs ys at l e = (
  λ all i a b.
      let here : at + (i - at) ≡ i = omega arith in
      ap (λ j. get_or xs j 0) (sym here) ∙ sym (e (i - at) (omega arith)) ∙ all (i - at) 0 (omega arith),
  λ zero k d b. get_or_default ys k d 0 b ∙ e k b ∙ zero (at + k) (omega arith) (omega arith),
)

pub returns : goal.returns
returns c =
    let xs = c.args.block.now in
    let at = c.args.at in
    let n = check_start - at in
    let long : length (take n (drop at xs)) ≡ n = search rules in
    let read : IsTrue c.all.result ↔ All (λ x. x ≡ 0) (take n (drop at xs)) = search rules in
    let said = zeros_from xs (take n (drop at xs)) at (omega arith) (λ k l. get_or-take n (drop at xs) k 0 (omega arith) ∙ get_or-drop at xs k 0) in
    (λ t. said.0 (read.0 t), λ z. read.1 (said.1 z))
