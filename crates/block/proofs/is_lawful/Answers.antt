use Rattle.std.proofs.Common.{◌≡◌, arith}
use Rattle.std.proofs.lemmas.Bool.{false≢true}
use Rattle.block.proofs.Layouts.{lawful_found, found_lawful}
use Rattle.block.proofs.Changes.{one_change}
use Rattle.block.proofs.is_lawful.Goals as goal

pub returns-in-Some : goal.returns-in-Some
returns-in-Some c =
    let xs = c.args.block.now in
    let e : c.in-Some.block.now ≡ xs = c.in-Some.ensures.cases.same in
    let found = rw e at c.is_found_lawful.ensures in
    record {
      answer = (
        (λ t. lawful_found xs (λ i. let b = c.type_inv.block i in omega arith) (found.0 t)),
        (λ h. found.1 (found_lawful xs h)),
      );
      one_change = one_change;
    }

pub returns-in-None : goal.returns-in-None
returns-in-None c = record {
  answer = (
    (λ f. absurd (false≢true f)),
    (λ h. absurd (c.in-None.ensures.cases (found_lawful c.args.block.now h).long)),
  );
  one_change = one_change;
}
