-- A packet in a slot.
use Rattle.std.proofs.Common.{◌≡◌, ℕ, ◌+◌, ◌<◌, ◌≤◌, Bool, true, false, cond, List, [], ◌∷◌, length, set, Some, sym, refl, ap, ◌∙◌, subst, inl, inr, arith}
use Rattle.std.proofs.lemmas.Bool.{cases_Bool, true≢false, false≢true}
use Rattle.wire.specs.Refusals.{RefusedBy}
use Rattle.wire.specs.declared.refusal.Refusal.{Refusal}
use Rattle.wire.specs.declared.refusal.Layer.TheVariants.{Receiver}
use Rattle.shelf.specs.Units.{cost, free_units}
use Rattle.numbers.proofs.Digits.{has_not}
use Rattle.collection.specs.Fragments.{FragmentValue, Ranged, Heard}
use Rattle.collection.specs.Kept.{Open, Related, PiecePut}
use Rattle.collection.specs.declared.summary.Summary.{Summary}
use Rattle.collection.specs.declared.summary.Relation.TheVariants.{New, Repeated, Contradicts}
use Rattle.collection.proofs.Pinning.{calm_more}
use Rattle.history.specs.Calls.{Reply, refused_by, audible, repeated, kept, completed}
use Rattle.history.specs.Stays.{Stay, numbered, weight, more}
use Rattle.history.specs.Answers.{PacketAnswer, after_fetch, after_spoil, contradicts, again, no_room, completes, goes_on}
use Rattle.history.proofs.Numbers.{in_numbered, numbered_in}
use Rattle.receiver.specs.declared.stay.Stay.{Stay as SlotStay}
use Rattle.receiver.specs.declared.stay.Phase.{Phase}
use Rattle.receiver.specs.declared.stay.Phase.TheVariants.{Sound, Spoiled, Fetched}
use Rattle.receiver.specs.declared.answers.Outcome.{Outcome}
use Rattle.receiver.specs.declared.answers.Outcome.TheVariants as outcome
use Rattle.receiver.specs.Slots.{Slot, Reflects, Mirrors, Bare, row, at}
use Rattle.receiver.specs.Tables.{Seen}
use Rattle.receiver.specs.Replies.{outcome_reply, refusal_reply}
use Rattle.receiver.specs.Parts.{PacketEffect, TakenIn, Completes, turned_to}
use Rattle.receiver.proofs.Rows.{row_put, row_same}

-- what the receiver's refusal is as a reply
pub refused_so : (n : ℕ) (e : Refusal) → RefusedBy Receiver n 0 e → refusal_reply e ≡ refused_by n
refused_so n e r = let a = r.number_is in let b = r.place_is in let c = r.by_layer in cc

-- a number that was not heard has no piece
pub unheard_bare : (ps : List FragmentValue) (s : Summary) (piece : ℕ → List ℕ) → Open ps s piece → (n : ℕ) → (Heard ps n → ⊥) → piece n ≡ []
unheard_bare ps s piece o n not = o.bare n (has_not s.heard n (λ h. not (o.heard n h)))

pub not_numbered : (n : ℕ) (ps : List FragmentValue) → (Heard ps n → ⊥) → numbered n ps ≡ false
not_numbered n ps not = elim (cases_Bool (numbered n ps)) [ inl t ↦ absurd (not (numbered_in n ps t)) | inr f ↦ f ]

module _ (unit free : ℕ) (l : Stay) (q : FragmentValue) (old : Slot) (begun : SlotStay) (piece piece' : ℕ → List ℕ) where
  -- a packet that is heard turns the stay, and sets its age to 0
  turns : (r : Reply) (t : SlotStay) (f : Phase) → t ≡ turned_to f begun → Reflects f unit (more q l) piece' → PacketAnswer unit free q l r → audible r ≡ true → PacketEffect unit free l q r old begun (Some t) piece piece'
  turns r t f is m due heard = record {
    due = due;
    unheard = λ no. absurd (true≢false (sym heard ∙ no));
    heard = λ _. (t, refl, ap (λ (x : SlotStay). x.id) is, ap (λ (x : SlotStay). x.age) is, subst (λ (x : SlotStay). Mirrors unit (more q l) x piece') (sym is) m);
  }

  module _ (was : Summary) (sound : Reflects (Sound was) unit l piece) (some : 0 < unit) (ranged : Ranged q) where
    -- new, and put on the shelf
    pub new_heeds : Related l.heard q New → (t : SlotStay) (c : Summary) (o : Outcome) → t ≡ turned_to (Sound c) begun → PiecePut q piece piece' → cost unit (length q.body) ≤ free
        → Completes (q ∷ l.heard) o → Open (q ∷ l.heard) c piece' → PacketEffect unit free l q (outcome_reply o) old begun (Some t) piece piece'
    new_heeds is-new t c o is put fits done opened =
        let e : row unit piece' ≡ cost unit (length q.body) + row unit piece = row_put unit piece piece' q.number q.body some ranged.limits.0 (unheard_bare l.heard was piece sound.1 q.number is-new.1) put.here put.there in
        let w : weight unit (q ∷ l.heard) ≡ cost unit (length q.body) + weight unit l.heard = ap (λ (b : Bool). cond b 0 (cost unit (length q.body)) + weight unit l.heard) (not_numbered q.number l.heard is-new.1) in
        by_outcome o done (sound.0, opened, e ∙ ap (λ (n : ℕ). cost unit (length q.body) + n) sound.2 ∙ sym w)
      where
        by_outcome : (o : Outcome) → Completes (q ∷ l.heard) o → Reflects (Sound c) unit (more q l) piece' → PacketEffect unit free l q (outcome_reply o) old begun (Some t) piece piece'
        by_outcome outcome.Whole d m = turns completed t (Sound c) is m (completes sound.0 d is-new.1 fits refl) refl
        by_outcome outcome.Kept d m = turns kept t (Sound c) is m (goes_on sound.0 opened.calm d is-new.1 fits refl) refl
        by_outcome outcome.Repeated d m = absurd d

    pub again_heeds : Related l.heard q Repeated → (t : SlotStay) (c : Summary) → t ≡ turned_to (Sound c) begun → Open (q ∷ l.heard) c piece' → ((n : ℕ) → piece' n ≡ piece n) → PacketEffect unit free l q repeated old begun (Some t) piece piece'
    again_heeds rel t c is opened same =
        let w : weight unit (q ∷ l.heard) ≡ 0 + weight unit l.heard = ap (λ (b : Bool). cond b 0 (cost unit (length q.body)) + weight unit l.heard) (in_numbered q.number l.heard rel.1) in
        turns repeated t (Sound c) is (sound.0, opened, omega (arith, row_same unit piece piece' same, sound.2, w)) (again sound.0 opened.calm rel.1 refl) refl

    pub clash_heeds : Related l.heard q Contradicts → (r : Reply) → r ≡ refused_by 23 → (t : SlotStay) → t ≡ turned_to Spoiled begun → Bare piece' → PacketEffect unit free l q r old begun (Some t) piece piece'
    clash_heeds clash r e t is none = turns r t Spoiled is (sound.0, (q, clash.0, inl refl, inr clash.1, clash.2), none) (contradicts sound.0 sound.1.calm clash e) (ap audible e)

    pub full_heeds : Related l.heard q New → (r : Reply) → r ≡ refused_by 22 → free < cost unit (length q.body) → ((n : ℕ) → piece' n ≡ piece n) → PacketEffect unit free l q r old begun old piece piece'
    full_heeds rel r e tight same = record {
      due = no_room sound.0 (calm_more q l.heard ranged sound.1.calm rel.0) rel.1 tight e;
      unheard = λ _. (refl, same);
      heard = λ t. absurd (false≢true (sym (ap audible e) ∙ t));
    }

  -- a spoiled stay remains so, a fetched one too
  pub spoiled_heeds : Reflects Spoiled unit l piece → (r : Reply) → r ≡ refused_by 24 → (t : SlotStay) → t ≡ turned_to Spoiled begun → ((n : ℕ) → piece' n ≡ piece n) → PacketEffect unit free l q r old begun (Some t) piece piece'
  spoiled_heeds m r e t is same = turns r t Spoiled is (m.0, (m.1.0, m.1.1, inr m.1.2, inr m.1.3, m.1.4), λ n. same n ∙ m.2 n) (after_spoil m.0 m.1 e) (ap audible e)

  pub fetched_heeds : Reflects Fetched unit l piece → (r : Reply) → r ≡ refused_by 25 → (t : SlotStay) → t ≡ turned_to Fetched begun → ((n : ℕ) → piece' n ≡ piece n) → PacketEffect unit free l q r old begun (Some t) piece piece'
  fetched_heeds m r e t is same = turns r t Fetched is (m.0, λ n. same n ∙ m.1 n) (after_fetch m.0 e) (ap audible e)

-- a packet that leaves the shelf alone, and turns the stay of the slot k
pub taken_still : (k : ℕ) (q : FragmentValue) (r : Reply) (begun t : SlotStay) (s : Seen)
    → ((l : Stay) → 0 < s.terms.unit → Mirrors s.terms.unit l begun (s.piece k) → PacketEffect s.terms.unit (free_units s.terms.unit s.terms.capacity s.piece) l q r (at s.slots k) begun (Some t) (s.piece k) (s.piece k))
    → TakenIn k q r begun s (record { terms = s.terms; slots = set s.slots k (Some t); piece = s.piece; refused = s.refused; lent = s.lent })
taken_still k q r begun t s heeds = record { new = Some t; only_here = record { same_terms = refl; same_lent = refl; same_count = refl; others = λ t m ne. refl; slots = refl }; heeds = heeds }
