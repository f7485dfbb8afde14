use Rattle.std.specs.Int.{w64}
use Rattle.std.proofs.lemmas.Nat.Bits.{bit_at_set_same, bit_at_set_other}
use Rattle.numbers.specs.Marks.{has}
use Rattle.numbers.proofs.NumberSet.with.Goals as goal

pub returns : goal.returns
unfolding has
returns c =
    let m = c.args.self.bits in
    let n = c.args.n in
    let within = c.if-n-ge-MAX_PACKETS.false in
    record { here = λ _. bit_at_set_same w64 m n within; there = bit_at_set_other w64 m n within }
