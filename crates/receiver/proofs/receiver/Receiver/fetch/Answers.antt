use Rattle.std.proofs.Common.{◌≡◌, ℕ, ◌≤◌, List, ◌++◌, length, take, drop, sym, refl, ap, ◌∙◌, subst, inl, inr, arith}
use lib.Seq.{take-append_seam}
use Rattle.shelf.specs.Units.{Tidy}
use Rattle.collection.specs.Fragments.{joined}
use Rattle.history.specs.Calls.{History, delivered}
use Rattle.receiver.specs.declared.stay.Phase.TheVariants.{Sound, Spoiled, Fetched}
use Rattle.receiver.specs.Tables.{Seen, Explains, seen}
use Rattle.receiver.proofs.Slots.{cleared, cleared_not}
use Rattle.receiver.proofs.Hearings.{refused_so}
use Rattle.receiver.proofs.Changes.{explains_as, terms_as, lent_as}
use Rattle.receiver.proofs.Fetches.{Extends, fetch_none, fetch_due, refused_step, fetch_taken, fetch_keeps, size_known}
use Rattle.receiver.proofs.receiver.Receiver.fetch.Goals as goal

pub returns-in_default-clause-step : goal.returns-in_default-clause-step
returns-in_default-clause-step g c =
    let n = length c.args.buffer.now in
    refused_step (seen g.S.Shelf c.args.self.now) c.args.id.now n c.refusal.result (λ h ex. fetch_none h _ ex c.args.id.now c.in_default.ensures n _ (refused_so 26 c.refusal.result c.refusal.ensures))

pub returns-in-Spoiled-clause-step : goal.returns-in-Spoiled-clause-step
returns-in-Spoiled-clause-step g c =
    let n = length c.args.buffer.now in
    let e = c.refusal-in-Spoiled in
    refused_step (seen g.S.Shelf c.args.self.now) c.args.id.now n e.result
    (λ h ex. fetch_due h _ ex c.args.id.now c.in-Some.k c.in-Some.stay c.in-Some.ensures n Spoiled c.in-Spoiled.is _ (refused_so 24 e.result e.ensures))

pub returns-in-Fetched-clause-step : goal.returns-in-Fetched-clause-step
returns-in-Fetched-clause-step g c =
    let n = length c.args.buffer.now in
    let e = c.refusal-in-Fetched in
    refused_step (seen g.S.Shelf c.args.self.now) c.args.id.now n e.result
    (λ h ex. fetch_due h _ ex c.args.id.now c.in-Some.k c.in-Some.stay c.in-Some.ensures n Fetched c.in-Fetched.is _ (refused_so 25 e.result e.ensures))

pub returns-in_default-whole-clause-step : goal.returns-in_default-whole-clause-step
returns-in_default-whole-clause-step g c =
    let s : Seen = seen g.S.Shelf c.args.self.now in
    let n = length c.args.buffer.now in
    let k = c.in-Some.k in
    let e = c.refusal-in_default-whole in
    refused_step s c.args.id.now n e.result
    (λ h ex. fetch_due h s ex c.args.id.now k c.in-Some.stay c.in-Some.ensures n (Sound c.in-Sound.summary) c.in-Sound.is _
    (c.whole.result, λ ps o. c.whole.ensures ps (s.piece k) o, inl (c.in_default-whole.is, refused_so 27 e.result e.ensures)))

pub returns-then-extent-buffer-clause-step : goal.returns-then-extent-buffer-clause-step
returns-then-extent-buffer-clause-step g c =
    let s : Seen = seen g.S.Shelf c.args.self.now in
    let n = length c.args.buffer.now in
    let k = c.in-Some.k in
    let e = c.refusal-then-extent-buffer in
    refused_step s c.args.id.now n e.result
    (λ h ex. fetch_due h s ex c.args.id.now k c.in-Some.stay c.in-Some.ensures n (Sound c.in-Sound.summary) c.in-Sound.is _
    (c.whole.result, λ ps o. c.whole.ensures ps (s.piece k) o, inr (inl (c.in-Some-whole.extent, c.in-Some-whole.is, c.if-extent-buffer.true, refused_so 10 e.result e.ensures))))

-- what stands in the buffer after n bytes were put at its start
handed : (bytes was new : List ℕ) (n : ℕ) → length bytes ≡ n → n ≤ length was → (length bytes ≤ length was → new ≡ bytes ++ drop (length bytes) was)
    → (take n new ≡ bytes) × (new ≡ take n new ++ drop n was)
handed bytes was new n e le wrote =
    let is : new ≡ bytes ++ drop n was = wrote (omega arith) ∙ ap (λ (m : ℕ). bytes ++ drop m was) e in
    let front : take n new ≡ bytes = ap (take n) is ∙ ap (λ (m : ℕ). take m (bytes ++ drop n was)) (sym e) ∙ take-append_seam bytes (drop n was) in
    (front, is ∙ ap (λ (xs : List ℕ). xs ++ drop n was) (sym front))

pub returns-else-extent-buffer : goal.returns-else-extent-buffer
returns-else-extent-buffer g c =
    let S = g.S.Shelf in
    let me = c.args.self.now in
    let s : Seen = seen S me in
    let k = c.in-Some.k in
    let stay = c.in-Some.stay in
    let own = c.in-Some.ensures in
    let id = c.args.id.now in
    let was = c.args.buffer.now in
    let new = c.join.new.buffer in
    let x = c.in-Some-whole.extent in
    let P = S.piece c.clear.new.self in
    let known : Extends c.in-Sound.summary (s.piece k) c.whole.result = λ ps o. c.whole.ensures ps (s.piece k) o in
    let wrote : (h : History) → Explains h s → (take x.length new ≡ joined (s.piece k) x.pieces) × (new ≡ take x.length new ++ drop x.length was) = λ h ex.
    handed (joined (s.piece k) x.pieces) was new x.length (size_known h s ex id k stay own c.in-Sound.summary c.in-Sound.is c.whole.result known x c.in-Some-whole.is) c.if-extent-buffer.false c.join.ensures in
    let tidy : Tidy S.unit (S.capacity me.shelf) P = subst (λ (n : ℕ). Tidy S.unit n P) c.clear.ensures.size (g.met.S.Shelf.tidy c.clear.new.self) in
    let terms = terms_as me.patience S.unit (S.capacity me.shelf) (S.capacity c.clear.new.self) c.clear.ensures.size in
    let bare = cleared (S.piece me.shelf) P k c.clear.ensures.after in
    let others = cleared_not (S.piece me.shelf) P k c.clear.ensures.after in
    record {
      step = record {
        same_terms = terms;
        same_lent = lent_as _ _ _ _ c.clear.ensures.loan c.clear.ensures.rest;
        keeps_slots = λ h ex. fetch_keeps h s ex id k stay own (length was) (take x.length new) c.turned.result P c.turned.ensures bare others tidy;
        due = λ h ex.
            fetch_due h s ex id k stay own (length was) (Sound c.in-Sound.summary) c.in-Sound.is _
            (c.whole.result, known, inr (inr (x, c.in-Some-whole.is, c.if-extent-buffer.false, ap delivered (wrote h ex).0)));
        explained = λ h ex. explains_as _ _ _ terms refl refl refl (fetch_taken h s ex id k stay own (length was) (take x.length new) c.turned.result P c.turned.ensures bare others tidy s.lent);
      };
      buffer = λ h ex. (c.if-extent-buffer.false, (wrote h ex).1);
    }
