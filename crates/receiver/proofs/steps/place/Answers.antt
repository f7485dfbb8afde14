use Rattle.std.proofs.Common.{◌≡◌, ℕ, List, Some, None, Option, sym, subst, inl, inr, MatchOption, of_calls}
use Rattle.receiver.specs.Slots.{Slot}
use Rattle.receiver.specs.Parts.{Absent, OwnSlot, AllTaken, FreeSlot, Crowded, Home}
use Rattle.receiver.proofs.steps.place.Goals as goal

-- the own slot, if there is one, else a free one
placed : (slots : List Slot) (id : List ℕ) (o r : Option ℕ) (P : Type 0) → (P → MatchOption r (AllTaken slots) (λ k. FreeSlot slots k)) → MatchOption o (Absent slots id) (λ k. OwnSlot slots id k)
    → MatchOption o P (λ k. r ≡ Some k) → MatchOption r (Crowded slots id) (λ k. Home slots id k)
placed slots id (Some k) r P free own e = subst (λ (x : Option ℕ). MatchOption x (Crowded slots id) (λ k. Home slots id k)) (sym e) (own.0, inl own.1)
placed slots id None (Some k) P free absent p = ((free p).0, inr ((free p).1, absent))
placed slots id None None P free absent p = (free p, absent)

pub returns : goal.returns
returns c = placed c.args.slots.now c.args.id.now c.own_slot.result c.or_else.result _ (λ p. search of_calls) c.own_slot.ensures c.or_else.ensures
