use Rattle.std.proofs.Common.{sym, ap, ◌∙◌}
use Rattle.std.proofs.lemmas.Bool.{true≢false}
use Rattle.std.proofs.lemmas.Bool.Decides.{not_from_Decides}
use Rattle.numbers.specs.Marks.{has}
use Rattle.collection.proofs.summary.Summary.relate.Goals as goal

pub returns-then-contradicts : goal.returns-then-contradicts
returns-then-contradicts g c = λ ps o. (c.contradicts.ensures ps o).0 c.if-contradicts.true

pub returns-then-contains : goal.returns-then-contains
returns-then-contains g c = λ ps o. (
  not_from_Decides c.contradicts.result (c.contradicts.ensures ps o) c.if-contradicts.false,
  o.heard c.args.packet.number (c.contains.ensures.0 c.if-contains.true),
)

pub returns : goal.returns
returns g c = λ ps o. (
  not_from_Decides c.contradicts.result (c.contradicts.ensures ps o) c.if-contradicts.false,
  λ a. true≢false (sym (c.contains.ensures.1 (ap (has c.args.self.heard) (sym a.2) ∙ o.told a.0 a.1)) ∙ c.if-contains.false),
)
