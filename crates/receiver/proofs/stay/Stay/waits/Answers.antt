use Rattle.std.proofs.Common.{sym, ◌∙◌, inl, inr}
use Rattle.std.proofs.lemmas.Bool.{false≢true, true≢false}
use Rattle.receiver.specs.declared.stay.Phase.TheVariants.{Sound, Spoiled, Fetched}
use Rattle.receiver.proofs.Slots.{in_phase, extent_decides}
use Rattle.receiver.proofs.stay.Stay.waits.Goals as goal

pub returns-in-Sound : goal.returns-in-Sound
returns-in-Sound c = λ unit l piece m.
    let x = in_phase unit l c.args.self piece (Sound c.in-Sound.summary) c.in-Sound.is m in
    let d = extent_decides c.whole.result l.heard piece (c.whole.ensures l.heard piece x.1) in
    let e = c.is_some.ensures in
    (λ t. (x.0, d.0 (sym e ∙ t)), λ w. e ∙ d.1 w.1)

pub returns-in-Spoiled : goal.returns-in-Spoiled
returns-in-Spoiled c = λ unit l piece m. (
  λ t. absurd (false≢true t),
  λ w. absurd (elim c.in-Spoiled.is [
    | inl e ↦ let b = (in_phase unit l c.args.self piece Spoiled e m).1 in w.1.0 b.0 b.1 b.2 b.3 b.4
    | inr e ↦ true≢false (sym (in_phase unit l c.args.self piece Fetched e m).0 ∙ w.0)
  ]),
)
