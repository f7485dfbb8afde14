use Rattle.std.proofs.Common.{◌≡◌, false, not, nat_eq, MatchOption, refl, arith, rules}
use Rattle.std.specs.Option.{option_zip}
use Rattle.collection.specs.Kept.{shown}
use Rattle.collection.proofs.Hearing.{other_count_told}
use Rattle.collection.proofs.summary.Summary.other_count.Goals as goal

pub returns : goal.returns
returns c =
    let p = c.args.packet in
    let r = c.is_some_and.result in
    let told : MatchOption (option_zip c.args.self.count p.count) (r ≡ false) (λ x. r ≡ not (nat_eq x.0 x.1)) = search rules in
    other_count_told c.args.self (shown p) p.count r refl (λ n e. omega (arith, p.within n e)) told
