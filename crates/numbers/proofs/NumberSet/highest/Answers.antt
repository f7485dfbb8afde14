use Rattle.std.proofs.Common.{◌≡◌, ℕ, suc, ◌-◌, ◌^◌, ◌<◌, ap, ◌∙◌, subst, arith, rules}
use lib.Count.{count_leading_zeros, leading_top}
use Rattle.std.specs.Int.{bit_at}
use Rattle.std.proofs.lemmas.Nat.Bits.{bit_at-zero, bit_at_above}
use Rattle.numbers.specs.Marks.{has}
use Rattle.numbers.proofs.Digits.{bit_top}
use Rattle.numbers.proofs.NumberSet.highest.Goals as goal

pub returns-then-self-eq0 : goal.returns-then-self-eq0
unfolding has
returns-then-self-eq0 c = λ k. ap (λ (x : ℕ). bit_at x k) c.if-self-eq0.true ∙ bit_at-zero k

pub returns : goal.returns
unfolding has
returns c =
    let m = c.args.self.bits in
    let fits : m < 2 ^ 64 = search rules in
    let t = leading_top 64 m (omega (arith, c.if-self-eq0.false)) fits in
    let e : t.0 ≡ 63 - count_leading_zeros 64 m = omega (arith, t.1) in
    record {
      at = subst (λ (x : ℕ). bit_at m x ≡ 1) e (bit_top t.0 m t.2 t.3);
      above = λ k l. bit_at_above m (suc t.0) k t.3 (omega (arith, e));
    }
