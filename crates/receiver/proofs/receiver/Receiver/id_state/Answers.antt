use Rattle.std.proofs.Common.{refl, inl, inr}
use Rattle.history.specs.Calls.{is_gathering, is_whole}
use Rattle.receiver.specs.declared.stay.Phase.TheVariants.{Sound}
use Rattle.receiver.specs.Tables.{Seen, seen}
use Rattle.receiver.proofs.Fetches.{ask_due}
use Rattle.receiver.proofs.receiver.Receiver.id_state.Goals as goal

pub returns-in-Some-whole : goal.returns-in-Some-whole
returns-in-Some-whole g c = λ h ex.
    let s : Seen = seen g.S.Shelf c.args.self.now in
    let k = c.in-Some.field-0-0 in
    let x = c.in-Some-whole.extent in
    ask_due h s ex c.args.id.now k c.in-Some.stay c.in-Some.ensures (Sound c.in-Sound.summary) c.in-Sound.is (is_whole x.length)
    (c.whole.result, λ ps o. c.whole.ensures ps (s.piece k) o, inr (x, c.in-Some-whole.is, refl))

pub returns-in-None : goal.returns-in-None
returns-in-None g c = λ h ex.
    let s : Seen = seen g.S.Shelf c.args.self.now in
    let k = c.in-Some.field-0-0 in
    let n = c.heard_count.result in
    let low = c.lowest_unheard.result in
    ask_due h s ex c.args.id.now k c.in-Some.stay c.in-Some.ensures (Sound c.in-Sound.summary) c.in-Sound.is (is_gathering n low)
    (c.whole.result, λ ps o. c.whole.ensures ps (s.piece k) o, inl (c.in-None.is, (n, low, (λ ps o. c.heard_count.ensures ps (s.piece k) o, λ ps o. c.lowest_unheard.ensures ps (s.piece k) o), refl)))
