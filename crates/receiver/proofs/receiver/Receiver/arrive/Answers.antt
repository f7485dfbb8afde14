use Rattle.std.proofs.Common.{◌≡◌, ℕ, Bool, not, cond, Err, Ok, Result, sym, refl, ap, ◌∙◌, arith}
use Rattle.std.specs.Result.{is_err}
use Rattle.wire.specs.declared.refusal.Refusal.{Refusal}
use Rattle.history.specs.Calls.{accepted}
use Rattle.receiver.specs.declared.answers.Outcome.{Outcome}
use Rattle.receiver.specs.declared.answers.Outcome.TheVariants as outcome
use Rattle.receiver.specs.Replies.{arrival_reply}
use Rattle.receiver.proofs.receiver.Receiver.arrive.Goals as goal

abbrev counted : Bool → ℕ
counted b = cond b 0 1

-- an answer is counted exactly where it is an error
counts : (answer : Result Outcome Refusal) → accepted (arrival_reply answer) ≡ not (is_err answer)
counts (Ok outcome.Kept) = refl
counts (Ok outcome.Repeated) = refl
counts (Ok outcome.Whole) = refl
counts (Err e) = refl

pub returns-then-is_err : goal.returns-then-is_err
returns-then-is_err g c =
    let t = c.hear-answer.ensures in
    let one : counted (accepted (arrival_reply c.hear-answer.result)) ≡ 1 = ap counted (counts c.hear-answer.result ∙ ap not (sym c.is_err.ensures.value ∙ c.if-is_err.true)) in
    record {
      same_terms = t.same_terms;
      same_lent = t.same_lent;
      due = t.due;
      keeps_slots = t.keeps_slots;
      explained = λ h ex. t.explained h ex c.saturating_add-self.result (omega (arith, c.saturating_add-self.ensures, t.same_count, one));
    }

pub returns-else-is_err : goal.returns-else-is_err
returns-else-is_err g c =
    let t = c.hear-answer.ensures in
    let none : counted (accepted (arrival_reply c.hear-answer.result)) ≡ 0 = ap counted (counts c.hear-answer.result ∙ ap not (sym c.is_err.ensures.value ∙ c.if-is_err.false)) in
    record {
      same_terms = t.same_terms;
      same_lent = t.same_lent;
      due = t.due;
      keeps_slots = t.keeps_slots;
      explained = λ h ex. t.explained h ex c.hear-answer.new.self.refused (let z = ex.count in omega (arith, z, t.same_count, none));
    }
