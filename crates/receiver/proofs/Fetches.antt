-- A fetch and a state question as steps.
use Rattle.std.proofs.Common.{◌≡◌, ℕ, ◌<◌, ◌≤◌, ◌⊎◌, List, ◌∷◌, length, set, Some, None, Option, sym, refl, ap, ◌∙◌, subst, inl, inr, arith, MatchOption}
use Rattle.std.proofs.lemmas.Bool.{true≢false}
use Rattle.wire.specs.Limits.{max_packets}
use Rattle.wire.specs.declared.refusal.Refusal.{Refusal}
use Rattle.shelf.specs.Pieces.{Pieces}
use Rattle.shelf.specs.Units.{Tidy}
use Rattle.collection.specs.Fragments.{FragmentValue, Whole, Counted, LowestUnheard, joined, Complete}
use Rattle.collection.specs.Kept.{Open}
use Rattle.collection.specs.declared.summary.Extent.{Extent}
use Rattle.collection.specs.declared.summary.Summary.{Summary}
use Rattle.history.specs.Calls.{State, Reply, History, fetches, is_gathering, is_whole, is_spoiled, is_fetched, delivered, told, refused_by}
use Rattle.history.specs.Stays.{Stay, outside, inside, fetched_now, Stands}
use Rattle.history.specs.Answers.{FetchAnswer, gathers, spoilt, fetched_before, too_short, hands_out, FetchDue, StayState, looks_gathering, looks_whole, looks_spoiled, looks_fetched, StateDue}
use Rattle.history.proofs.Standings.{same_or}
use Rattle.receiver.specs.declared.stay.Stay.{Stay as SlotStay}
use Rattle.receiver.specs.declared.stay.Phase.{Phase}
use Rattle.receiver.specs.declared.stay.Phase.TheVariants.{Sound, Spoiled, Fetched}
use Rattle.receiver.specs.Slots.{Slot, name_in, Bare, Reflects, Mirrors, Keeps, Sits}
use Rattle.receiver.specs.Tables.{Lent, Seen, Explains, Step, KeepsSlots}
use Rattle.receiver.specs.Replies.{refusal_reply}
use Rattle.receiver.specs.Parts.{Home, Absent, OwnStay, turned_to}
use Rattle.receiver.proofs.Slots.{in_phase}
use Rattle.receiver.proofs.Changes.{left_out, one_step, one_keeps, quiet_keeps, quiet_step}

-- what is known of the extent of the message in a sound stay
abbrev pub Extends : Summary → (ℕ → List ℕ) → Option Extent → Type 0
Extends c piece o = (ps : List FragmentValue) → Open ps c piece → MatchOption o (Whole ps → ⊥) (λ x. Complete ps piece x.pieces x.length)

not_whole : (c : Summary) (piece : ℕ → List ℕ) (o : Option Extent) → Extends c piece o → o ≡ None → (ps : List FragmentValue) → Open ps c piece → Whole ps → ⊥
not_whole c piece o known e ps opened = subst (λ (w : Option Extent). MatchOption w (Whole ps → ⊥) (λ x. Complete ps piece x.pieces x.length)) e (known ps opened)

complete_at : (c : Summary) (piece : ℕ → List ℕ) (o : Option Extent) → Extends c piece o → (x : Extent) → o ≡ Some x → (ps : List FragmentValue) → Open ps c piece → Complete ps piece x.pieces x.length
complete_at c piece o known x e ps opened = subst (λ (w : Option Extent). MatchOption w (Whole ps → ⊥) (λ x. Complete ps piece x.pieces x.length)) e (known ps opened)

-- ---- no slot is that of the id

pub fetch_none : (h : History) (s : Seen) → Explains h s → (id : List ℕ) → Absent s.slots id → (n : ℕ) (r : Reply) → r ≡ refused_by 26 → FetchDue s.terms h id n r
fetch_none h s ex id absent n r is = record { standing = outside; stands = left_out h s ex id absent; due = is }

-- ---- a slot of its own

-- what a stay in this phase gives, where n bytes have room
abbrev pub Gives : Phase → ℕ → (ℕ → List ℕ) → Reply → Type 0
Gives Spoiled n piece r = r ≡ refused_by 24
Gives Fetched n piece r = r ≡ refused_by 25
Gives (Sound c) n piece r = (o : Option Extent) × Extends c piece o
    × (((o ≡ None) × (r ≡ refused_by 27))
    ⊎ (((x : Extent) × (o ≡ Some x) × (n < x.length) × (r ≡ refused_by 10))
    ⊎ ((x : Extent) × (o ≡ Some x) × (x.length ≤ n) × (r ≡ delivered (joined piece x.pieces)))))

phase_gives : (f : Phase) (n unit : ℕ) (l : Stay) (piece : ℕ → List ℕ) (r : Reply) → Reflects f unit l piece → Gives f n piece r → FetchAnswer n l r
phase_gives Spoiled n unit l piece r m g = spoilt m.0 m.1 g
phase_gives Fetched n unit l piece r m g = fetched_before m.0 g
phase_gives (Sound c) n unit l piece r m g =
    elim g.2 [
      | inl x ↦ gathers m.0 m.1.calm (not_whole c piece g.0 g.1 x.0 l.heard m.1) x.1
      | inr y ↦ elim y [
        | inl x ↦ let d = complete_at c piece g.0 g.1 x.0 x.1 l.heard m.1 in too_short m.0 d.whole _ d.message (omega (arith, d.size, x.2)) x.3
        | inr x ↦ let d = complete_at c piece g.0 g.1 x.0 x.1 l.heard m.1 in hands_out m.0 d.whole _ d.message (omega (arith, d.size, x.2)) x.3
      ]
    ]

-- how many numbers of a sound stay were heard, and the lowest that was not
abbrev pub Counts : Summary → (ℕ → List ℕ) → ℕ → ℕ → Type 0
Counts c piece n low = ((ps : List FragmentValue) → Open ps c piece → Counted ps max_packets n) × ((ps : List FragmentValue) → Open ps c piece → LowestUnheard ps low)

-- what is seen of a stay in this phase
abbrev pub Sees : Phase → (ℕ → List ℕ) → State → Type 0
Sees Spoiled piece v = v ≡ is_spoiled
Sees Fetched piece v = v ≡ is_fetched
Sees (Sound c) piece v = (o : Option Extent) × Extends c piece o
    × (((o ≡ None) × ((n low : ℕ) × Counts c piece n low × (v ≡ is_gathering n low)))
    ⊎ ((x : Extent) × (o ≡ Some x) × (v ≡ is_whole x.length)))

phase_sees : (f : Phase) (unit : ℕ) (l : Stay) (piece : ℕ → List ℕ) (v : State) → Reflects f unit l piece → Sees f piece v → StayState l v
phase_sees Spoiled unit l piece v m g = looks_spoiled m.0 m.1 g
phase_sees Fetched unit l piece v m g = looks_fetched m.0 g
phase_sees (Sound c) unit l piece v m g =
    elim g.2 [
      | inl x ↦
          let y = x.1 in
          looks_gathering m.0 m.1.calm (not_whole c piece g.0 g.1 x.0 l.heard m.1) y.0 y.1 (y.2.0 l.heard m.1) (y.2.1 l.heard m.1) y.3
      | inr x ↦
          let d = complete_at c piece g.0 g.1 x.0 x.1 l.heard m.1 in
          looks_whole m.0 d.whole _ d.message (x.2 ∙ ap is_whole (sym d.size))
    ]

module _ (h : History) (s : Seen) (ex : Explains h s) (id : List ℕ) (k : ℕ) (t : SlotStay) (own : OwnStay s.slots id k t) where
  -- the stay of a history that the slot has
  kept : (l : Stay) × Stands s.terms.patience h id (inside l) × Mirrors s.terms.unit l t (s.piece k)
  kept = elim (ex.seats k (omega (arith, own.0.0, ex.all_slots))) [
    | inl d ↦ absurd (true≢false (sym own.0.1.0 ∙ d.0))
    | inr y ↦ (
      y.1,
      subst (λ (i : List ℕ). Stands s.terms.patience h i (inside y.1)) (sym y.2.1 ∙ own.0.1.1) y.3,
      (subst (λ (x : Slot). Keeps s.terms.unit s.terms.patience y.1 x (s.piece k)) own.1 y.4).0,
    )
  ]

  pub fetch_due : (n : ℕ) (f : Phase) → t.phase ≡ f → (r : Reply) → Gives f n (s.piece k) r → FetchDue s.terms h id n r
  fetch_due n f is r g = let y = kept in record { standing = inside y.0; stands = y.1; due = phase_gives f n s.terms.unit y.0 (s.piece k) r (in_phase s.terms.unit y.0 t (s.piece k) f is y.2) g }

  pub ask_due : (f : Phase) → t.phase ≡ f → (v : State) → Sees f (s.piece k) v → StateDue s.terms h id (told v s.refused)
  ask_due f is v g =
      let y = kept in
      record { standing = inside y.0; stands = y.1; state = v; due = phase_sees f s.terms.unit y.0 (s.piece k) v (in_phase s.terms.unit y.0 t (s.piece k) f is y.2) g; is = ap (told v) ex.count }

  -- the message in a sound stay has the length that its extent says
  pub size_known : (c : Summary) → t.phase ≡ Sound c → (o : Option Extent) → Extends c (s.piece k) o → (x : Extent) → o ≡ Some x → length (joined (s.piece k) x.pieces) ≡ x.length
  size_known c is o known x e = let y = kept in (complete_at c (s.piece k) o known x e y.0.heard (in_phase s.terms.unit y.0 t (s.piece k) (Sound c) is y.2).1).size

  -- the message is handed out
  module _ (n : ℕ) (bytes : List ℕ) (new : SlotStay) (piece' : Pieces) (is : new ≡ turned_to Fetched t) (none : Bare (piece' k))
      (others : (t m : ℕ) → (t ≡ k → ⊥) → piece' t m ≡ s.piece t m) (tidy : Tidy s.terms.unit s.terms.capacity piece') where
    home : Home s.slots id k
    home = (own.0.0, inl own.0.1)

    takes_on : Sits s.terms.unit s.terms.patience id (fetched_now (inside kept.0)) (Some new) (piece' k)
    takes_on = subst (λ (x : SlotStay). Sits s.terms.unit s.terms.patience id (fetched_now (inside kept.0)) (Some x) (piece' k)) (sym is) ((refl, sym (ap name_in own.1) ∙ own.0.1.1), ((refl, none), omega arith))

    pub fetch_taken : (lent : Lent)
        → Explains (record { call = fetches id n; reply = delivered bytes } ∷ h) (record { terms = s.terms; slots = set s.slots k (Some new); piece = piece'; refused = s.refused; lent = lent })
    fetch_taken lent =
        one_step h s ex id k home (fetches id n) (delivered bytes) (inside kept.0) (fetched_now (inside kept.0)) kept.1 (inl (refl, refl)) (λ i ne x. inr (ne, refl)) (Some new) piece' s.refused lent
        takes_on others tidy (let z = ex.count in omega (arith, z))

    pub fetch_keeps : KeepsSlots s.slots (set s.slots k (Some new))
    fetch_keeps =
        one_keeps h s ex id k home (fetches id n) (delivered bytes) (inside kept.0) (fetched_now (inside kept.0)) kept.1 (inl (refl, refl)) (λ i ne x. inr (ne, refl)) (Some new) piece' s.refused s.lent
        takes_on others tidy (let z = ex.count in omega (arith, z))

-- ---- what leaves the table alone

-- a fetch that is refused
pub refused_step : (s : Seen) (id : List ℕ) (n : ℕ) (e : Refusal) → ((h : History) → Explains h s → FetchDue s.terms h id n (refusal_reply e)) → Step (fetches id n) (refusal_reply e) s s
refused_step s id n e due = record {
  same_terms = refl;
  same_lent = refl;
  due = due;
  keeps_slots = λ h ex. quiet_keeps h s ex;
  explained = λ h ex. quiet_step h s ex (fetches id n) (refusal_reply e) s.refused s.lent (λ i x st. elim (same_or id i) [ inl same ↦ inl (same, refl) | inr ne ↦ inr (ne, refl) ]) (let z = ex.count in omega (arith, z));
}
