use Rattle.std.proofs.Common.{◌≡◌, false, length, nat_lt, MatchOption, rules}
use Rattle.collection.specs.Kept.{shown}
use Rattle.collection.proofs.Hearing.{longer_told}
use Rattle.collection.proofs.summary.Summary.longer_new.Goals as goal

pub returns-then-packet : goal.returns-then-packet
returns-then-packet c =
    let r = c.is_some_and.result in
    let size = length c.args.packet.body.now in
    let told : MatchOption c.args.self.length (r ≡ false) (λ l. r ≡ nat_lt l size) = search rules in
    longer_told c.args.self (shown c.args.packet) r c.if-packet.true told
