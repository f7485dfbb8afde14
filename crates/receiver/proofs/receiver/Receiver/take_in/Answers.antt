use Rattle.std.proofs.Common.{◌≡◌, ℕ, ◌∷◌, Some, None, sym, refl, ◌∙◌}
use Rattle.std.proofs.lemmas.List.{set-get_or}
use Rattle.shelf.specs.Units.{free_units}
use Rattle.shelf.proofs.Takings.{takes_then}
use Rattle.collection.specs.Kept.{PiecePut, shown}
use Rattle.collection.proofs.Taking.{fragment_ranged}
use Rattle.receiver.specs.declared.stay.Phase.TheVariants.{Sound, Spoiled, Fetched}
use Rattle.receiver.specs.Slots.{at}
use Rattle.receiver.specs.Tables.{Seen, seen}
use Rattle.receiver.proofs.Slots.{in_phase, cleared, cleared_not}
use Rattle.receiver.proofs.Changes.{only_at}
use Rattle.receiver.proofs.Puttings.{put_not, put_here, put_other_slot, put_other_number, too_few}
use Rattle.receiver.proofs.Hearings.{refused_so, unheard_bare, new_heeds, again_heeds, clash_heeds, full_heeds, spoiled_heeds, fetched_heeds, taken_still}
use Rattle.receiver.proofs.receiver.Receiver.take_in.Goals as goal

pub returns-in-Fetched : goal.returns-in-Fetched
returns-in-Fetched g c =
    let S = g.S.Shelf in
    let s : Seen = seen S c.args.self.now in
    let k = c.args.at in
    let stay = c.args.stay in
    let q = shown c.args.fragment in
    taken_still k q _ stay c.turned.result s
    (λ l some m. fetched_heeds S.unit (free_units S.unit s.terms.capacity s.piece) l q (at s.slots k) stay (s.piece k) (s.piece k)
    (in_phase S.unit l stay (s.piece k) Fetched c.in-Fetched.is m) _ (refused_so 25 c.refusal.result c.refusal.ensures) c.turned.result c.turned.ensures (λ n. refl))

pub returns-in-Spoiled : goal.returns-in-Spoiled
returns-in-Spoiled g c =
    let S = g.S.Shelf in
    let s : Seen = seen S c.args.self.now in
    let k = c.args.at in
    let stay = c.args.stay in
    let q = shown c.args.fragment in
    let t = c.turned-in-Spoiled in
    let e = c.refusal-in-Spoiled in
    taken_still k q _ stay t.result s
    (λ l some m. spoiled_heeds S.unit (free_units S.unit s.terms.capacity s.piece) l q (at s.slots k) stay (s.piece k) (s.piece k)
    (in_phase S.unit l stay (s.piece k) Spoiled c.in-Spoiled.is m) _ (refused_so 24 e.result e.ensures) t.result t.ensures (λ n. refl))

pub returns-in-Contradicts : goal.returns-in-Contradicts
returns-in-Contradicts g c =
    let S = g.S.Shelf in
    let me = c.args.self.now in
    let s : Seen = seen S me in
    let k = c.args.at in
    let stay = c.args.stay in
    let p' = S.piece c.clear.new.self in
    record {
      new = Some c.turned-in-Contradicts.result;
      only_here = (let e = c.clear.ensures in only_at S me c.clear.new.self k (Some c.turned-in-Contradicts.result) _ refl e.size e.loan e.rest (cleared_not s.piece p' k e.after));
      heeds = λ l some m.
          let sound = in_phase S.unit l stay (s.piece k) (Sound c.in-Sound.summary) c.in-Sound.is m in
          clash_heeds S.unit (free_units S.unit s.terms.capacity s.piece) l (shown c.args.fragment) (at s.slots k) stay (s.piece k) (p' k)
          c.in-Sound.summary sound some (fragment_ranged c.args.fragment) (c.in-Contradicts.ensures l.heard sound.1) _ (refused_so 23 c.refusal-in-Contradicts.result c.refusal-in-Contradicts.ensures)
          c.turned-in-Contradicts.result c.turned-in-Contradicts.ensures (cleared s.piece p' k c.clear.ensures.after);
    }

pub returns-in-Repeated : goal.returns-in-Repeated
returns-in-Repeated g c =
    let S = g.S.Shelf in
    let s : Seen = seen S c.args.self.now in
    let k = c.args.at in
    let stay = c.args.stay in
    let q = shown c.args.fragment in
    let t = c.turned-in-Repeated in
    taken_still k q _ stay t.result s
    (λ l some m.
    let sound = in_phase S.unit l stay (s.piece k) (Sound c.in-Sound.summary) c.in-Sound.is m in
    let rel = c.in-Repeated.ensures l.heard sound.1 in
    again_heeds S.unit (free_units S.unit s.terms.capacity s.piece) l q (at s.slots k) stay (s.piece k) (s.piece k) c.in-Sound.summary sound some (fragment_ranged c.args.fragment) rel
    t.result c.with.result t.ensures (c.with.ensures.again l.heard (s.piece k) sound.1 rel.0 rel.1) (λ n. refl))

pub returns-then-not-put : goal.returns-then-not-put
returns-then-not-put g c =
    let S = g.S.Shelf in
    let me = c.args.self.now in
    let s : Seen = seen S me in
    let k = c.args.at in
    let stay = c.args.stay in
    let q = shown c.args.fragment in
    let p' = S.piece c.put.new.self in
    let same : (t n : ℕ) → p' t n ≡ s.piece t n = put_not c.put.result s.piece p' k q.number q.body c.put.ensures.after c.if-not-put.true in
    let ranged = fragment_ranged c.args.fragment in
    record {
      new = at s.slots k;
      only_here = (let e = c.put.ensures in only_at S me c.put.new.self k (at s.slots k) me.slots (sym (set-get_or me.slots k None)) e.size e.loan e.rest (λ t m ne. same t m));
      heeds = λ l some m.
          let sound = in_phase S.unit l stay (s.piece k) (Sound c.in-Sound.summary) c.in-Sound.is m in
          let rel = c.in-New.ensures l.heard sound.1 in
          full_heeds S.unit (free_units S.unit s.terms.capacity s.piece) l q (at s.slots k) stay (s.piece k) (p' k) c.in-Sound.summary sound some ranged rel _
          (refused_so 22 c.refusal-then-not-put.result c.refusal-then-not-put.ensures)
          (too_few S.unit s.terms.capacity s.piece k q.number q.body c.requires ranged.limits.0 ranged.limits.2 ranged.limits.3
          (unheard_bare l.heard c.in-Sound.summary (s.piece k) sound.1 q.number rel.1) (sym c.put.ensures.answer ∙ c.if-not-put.true))
          (same k);
    }

pub returns-else-not-put : goal.returns-else-not-put
returns-else-not-put g c =
    let S = g.S.Shelf in
    let me = c.args.self.now in
    let s : Seen = seen S me in
    let k = c.args.at in
    let stay = c.args.stay in
    let q = shown c.args.fragment in
    let p' = S.piece c.put.new.self in
    let puts = c.put.ensures.after in
    let put : PiecePut q (s.piece k) (p' k) = record { here = put_here c.put.result s.piece p' k q.number q.body puts c.if-not-put.false; there = put_other_number c.put.result s.piece p' k q.number q.body puts k } in
    record {
      new = Some c.turned-in-New.result;
      only_here = (let e = c.put.ensures in only_at S me c.put.new.self k (Some c.turned-in-New.result) _ refl e.size e.loan e.rest (put_other_slot c.put.result s.piece p' k q.number q.body puts));
      heeds = λ l some m.
          let sound = in_phase S.unit l stay (s.piece k) (Sound c.in-Sound.summary) c.in-Sound.is m in
          let rel = c.in-New.ensures l.heard sound.1 in
          let opened = c.with-summary.ensures.fresh l.heard (s.piece k) (p' k) sound.1 rel.0 put in
          new_heeds S.unit (free_units S.unit s.terms.capacity s.piece) l q (at s.slots k) stay (s.piece k) (p' k) c.in-Sound.summary sound some (fragment_ranged c.args.fragment) rel
          c.turned-in-New.result c.with-summary.result c.completion.result c.turned-in-New.ensures put
          (takes_then S.unit s.terms.capacity s.piece k q.number q.body (sym c.put.ensures.answer ∙ c.if-not-put.false)).units_suffice
          (c.completion.ensures (q ∷ l.heard) (p' k) opened) opened;
    }
