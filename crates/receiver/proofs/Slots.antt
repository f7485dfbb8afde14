-- A slot that has a stay, and a slot whose pieces are cleared.
use Rattle.std.proofs.Common.{◌≡◌, ℕ, min, Bool, true, cond, List, [], is_some, Some, None, Decides, Option, sym, refl, ap, ◌∙◌, subst, MatchOption}
use Rattle.std.proofs.lemmas.Bool.{false≢true, eq-eqb, ne_eqb}
use Rattle.shelf.specs.Pieces.{Pieces}
use Rattle.shelf.specs.Units.{Clears}
use Rattle.collection.specs.Fragments.{FragmentValue, Whole, Complete}
use Rattle.collection.specs.declared.summary.Extent.{Extent}
use Rattle.history.specs.Stays.{Stay}
use Rattle.receiver.specs.declared.stay.Stay.{Stay as SlotStay}
use Rattle.receiver.specs.declared.stay.Phase.{Phase}
use Rattle.receiver.specs.Slots.{Slot, used, Reflects, Mirrors, Keeps}

pub in_phase : (unit : ℕ) (l : Stay) (s : SlotStay) (piece : ℕ → List ℕ) (f : Phase) → s.phase ≡ f → Mirrors unit l s piece → Reflects f unit l piece
in_phase unit l s piece f e m = subst (λ (x : Phase). Reflects x unit l piece) e m

-- a slot that keeps a stay has one
pub kept_in : (unit p : ℕ) (l : Stay) (s : Slot) (piece : ℕ → List ℕ) → Keeps unit p l s piece → (x : SlotStay) × (s ≡ Some x) × Mirrors unit l x piece × (x.age ≡ min p l.since)
kept_in unit p l None piece m = absurd m
kept_in unit p l (Some x) piece m = (x, refl, m.0, m.1)

pub kept_used : (unit p : ℕ) (l : Stay) (s : Slot) (piece : ℕ → List ℕ) → Keeps unit p l s piece → used s ≡ true
kept_used unit p l s piece m = ap used (kept_in unit p l s piece m).1

-- a message is whole where its extent is known
pub extent_decides : (o : Option Extent) (ps : List FragmentValue) (piece : ℕ → List ℕ) → MatchOption o (Whole ps → ⊥) (λ x. Complete ps piece x.pieces x.length) → Decides (is_some o) (Whole ps)
extent_decides None ps piece h = (λ t. absurd (false≢true t), λ w. absurd (h w))
extent_decides (Some x) ps piece h = (λ _. h.whole, λ _. refl)

-- a cleared slot is bare, and the others are as they were
pub cleared : (p q : Pieces) (k : ℕ) → Clears p k q → (n : ℕ) → q k n ≡ []
cleared p q k e n = e k n ∙ ap (λ (t : Bool). cond t [] (p k n)) (eq-eqb k k refl)

pub cleared_not : (p q : Pieces) (k : ℕ) → Clears p k q → (t n : ℕ) → (t ≡ k → ⊥) → q t n ≡ p t n
cleared_not p q k e t n ne = e t n ∙ ap (λ (b : Bool). cond b [] (p t n)) (ne_eqb k t (λ x. ne (sym x)))
