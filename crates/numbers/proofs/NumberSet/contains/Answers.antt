use Rattle.std.proofs.Common.{◌^◌, ◌<◌, arith, rules}
use Rattle.std.proofs.lemmas.Nat.Bits.{shr_and_one, bit_at_above}
use Rattle.std.proofs.lemmas.Bool.Decides.{nat_tests}
use Rattle.numbers.specs.Marks.{has}
use Rattle.numbers.proofs.NumberSet.contains.Goals as goal

pub returns-then-n-lt-MAX_PACKETS : goal.returns-then-n-lt-MAX_PACKETS
unfolding has
returns-then-n-lt-MAX_PACKETS c =
    let e = shr_and_one c.args.self.bits c.args.n in
    (λ t. grind (arith, nat_tests, e), λ h. grind (arith, nat_tests, e))

pub returns-else-n-lt-MAX_PACKETS : goal.returns-else-n-lt-MAX_PACKETS
unfolding has
returns-else-n-lt-MAX_PACKETS c =
    let fits : c.args.self.bits < 2 ^ 64 = search rules in
    let none = bit_at_above c.args.self.bits 64 c.args.n fits c.if-n-lt-MAX_PACKETS.false in
    (λ t. absurd (grind (arith, nat_tests)), λ h. absurd (omega (arith, none, h)))
