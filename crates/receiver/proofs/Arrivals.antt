-- An arrival as a step.
use Rattle.std.proofs.Common.{◌≡◌, ℕ, ◌+◌, ◌-◌, ◌<◌, min, Bool, false, cond, List, ◌∷◌, set, Some, None, sym, refl, ap, ◌∙◌, subst, inl, inr, arith}
use Rattle.std.proofs.lemmas.Bool.{cases_Bool, true≢false}
use Rattle.wire.specs.Limits.{max_slots}
use Rattle.wire.specs.Refusals.{fault_number}
use Rattle.wire.specs.declared.refusal.Refusal.{Refusal}
use Rattle.shelf.specs.Pieces.{Pieces}
use Rattle.shelf.specs.Units.{Tidy, free_units}
use Rattle.packet.specs.Packets.{PacketValue, Encodes}
use Rattle.packet.specs.Datagrams.{Refused}
use Rattle.collection.specs.Fragments.{FragmentValue}
use Rattle.history.specs.Calls.{Reply, History, arrives, refused, refused_by, accepted, audible, refusals_in, refusals, most_refusals}
use Rattle.history.specs.Stays.{Stay, Standing, fresh, more, outside, inside, stay_of, hears, Carries, After, Stands}
use Rattle.history.specs.Answers.{PacketAnswer, PacketAnswerAt, PacketDue, ArrivalDue, readable, unreadable}
use Rattle.history.proofs.Standings.{same_or, stands_one, carries_one}
use Rattle.history.proofs.Answers.{hears_is}
use Rattle.receiver.specs.declared.stay.Stay.{Stay as SlotStay}
use Rattle.receiver.specs.declared.stay.Phase.{Phase}
use Rattle.receiver.specs.Slots.{Slot, used, id_bytes, Reflects, Mirrors, Sits, at}
use Rattle.receiver.specs.Tables.{Lent, Seen, Explains, KeepsSlots}
use Rattle.receiver.specs.Parts.{Home, Crowded, Begun, PacketEffect, Uncounted}
use Rattle.receiver.proofs.Rows.{row_none}
use Rattle.receiver.proofs.Changes.{left_out, within, found, one_step, one_keeps, quiet_keeps, quiet_step, sits_same}
use Rattle.receiver.proofs.Collections.{listing, all_used, one_free}

-- the stay as the packet finds it is that of the id
pub begins : (unit p : ℕ) (id : List ℕ) (y : Standing) (old : Slot) (begun : SlotStay) (piece : ℕ → List ℕ) → 0 < unit → Sits unit p id y old piece → Begun old id begun → Mirrors unit (stay_of y) begun piece × (id_bytes begun.id ≡ id)
begins unit p id outside None begun piece some si b = (subst (λ (f : Phase). Reflects f unit fresh piece) (sym b.2) (refl, b.3 piece si.1, row_none unit piece some si.1), b.0)
begins unit p id outside (Some x) begun piece some si b = absurd (true≢false si.0)
begins unit p id (inside l) None begun piece some si b = absurd si.1
begins unit p id (inside l) (Some x) begun piece some si b = (subst (λ (y : SlotStay). Mirrors unit l y piece) (sym b) si.1.0, ap (λ (y : SlotStay). id_bytes y.id) b ∙ si.0.1)

pub greets : (unit count free p : ℕ) (id : List ℕ) (q : FragmentValue) (y : Standing) (r : Reply) (old : Slot) (piece : ℕ → List ℕ) → Sits unit p id y old piece → (used old ≡ false → count < max_slots) → PacketAnswer unit free q (stay_of y) r → PacketAnswerAt unit count free q y r
greets unit count free p id q outside r old piece si few d = inr (few si.0, d)
greets unit count free p id q (inside l) r old piece si few d = d

-- the ids that the datagram does not carry stand as before
arrive_frame : (p : ℕ) (xs id : List ℕ) (q : FragmentValue) → Carries xs id q → (r : Reply) (i : List ℕ) → (id ≡ i → ⊥) → (x : Standing) → After p (arrives xs) r i x x
arrive_frame p xs id q carries r i ne x = inr (λ q' c. ne (carries_one xs id i q q' carries c).0, refl)

-- the packet goes into the slot k
module _ (h : History) (s : Seen) (ex : Explains h s) (xs id : List ℕ) (q : FragmentValue) (carries : Carries xs id q) (k : ℕ) (home : Home s.slots id k) (r : Reply) (begun : SlotStay) (new : Slot) (piece' : Pieces)
    (is_begun : Begun (at s.slots k) id begun)
    (heeds : (l : Stay) → 0 < s.terms.unit → Mirrors s.terms.unit l begun (s.piece k) → PacketEffect s.terms.unit (free_units s.terms.unit s.terms.capacity s.piece) l q r (at s.slots k) begun new (s.piece k) (piece' k))
    (others : (t m : ℕ) → (t ≡ k → ⊥) → piece' t m ≡ s.piece t m) (tidy : Tidy s.terms.unit s.terms.capacity piece') where
  standing : Standing
  standing = (found h s ex id k home).0

  was : Stands s.terms.patience h id standing × Sits s.terms.unit s.terms.patience id standing (at s.slots k) (s.piece k)
  unfolding standing
  was = ((found h s ex id k home).1, (found h s ex id k home).2)

  start : Mirrors s.terms.unit (stay_of standing) begun (s.piece k) × (id_bytes begun.id ≡ id)
  start = begins _ _ id standing (at s.slots k) begun (s.piece k) ex.tidy.unit_some was.1 is_begun

  heeded : PacketEffect s.terms.unit (free_units s.terms.unit s.terms.capacity s.piece) (stay_of standing) q r (at s.slots k) begun new (s.piece k) (piece' k)
  heeded = heeds (stay_of standing) ex.tidy.unit_some start.0

  pub arrive_due : PacketDue s.terms h id q r
  arrive_due =
      let li = listing h s ex in
      record {
        standing = standing;
        stands = was.0;
        stays = li.0;
        listed = li.1;
        due = greets _ _ _ _ id q standing r (at s.slots k) (s.piece k) was.1
            (λ f. omega (arith, li.3, one_free s.slots max_slots k (within h s ex id k home) f))
            (subst (λ (n : ℕ). PacketAnswer s.terms.unit (s.terms.capacity - n) q (stay_of standing) r) (sym li.2) heeded.due);
      }

  pub arrival_due : ArrivalDue s.terms h xs r
  arrival_due = readable id q carries arrive_due

  becomes : Standing
  becomes = cond (hears standing r) (inside (more q (stay_of standing))) standing

  then_sits : Sits s.terms.unit s.terms.patience id becomes new (piece' k)
  unfolding becomes
  then_sits =
      let e : hears standing r ≡ audible r = hears_is _ _ q standing r heeded.due in
      elim (cases_Bool (audible r)) [
        | inl t ↦
            let x = heeded.heard t in
            let z : becomes ≡ inside (more q (stay_of standing)) = ap (λ (w : Bool). cond w (inside (more q (stay_of standing))) standing) (e ∙ t) in
            subst (λ (w : Standing). Sits s.terms.unit s.terms.patience id w new (piece' k)) (sym z)
            (subst (λ (w : Slot). Sits s.terms.unit s.terms.patience id (inside (more q (stay_of standing))) w (piece' k)) (sym x.1) ((refl, ap id_bytes x.2 ∙ start.1), (x.4, omega (arith, x.3))))
        | inr f ↦
            let x = heeded.unheard f in
            let z : becomes ≡ standing = ap (λ (w : Bool). cond w (inside (more q (stay_of standing))) standing) (e ∙ f) in
            subst (λ (w : Standing). Sits s.terms.unit s.terms.patience id w new (piece' k)) (sym z) (sits_same _ _ id standing (at s.slots k) new (s.piece k) (piece' k) x.0 x.1 was.1)
      ]

  pub arrive_step : (n : ℕ) → n ≡ min (s.refused + cond (accepted r) 0 1) most_refusals → (lent : Lent)
      → Explains (record { call = arrives xs; reply = r } ∷ h) (record { terms = s.terms; slots = set s.slots k new; piece = piece'; refused = n; lent = lent })
  unfolding becomes
  arrive_step n count lent = one_step h s ex id k home (arrives xs) r standing becomes was.0 (inl (q, carries, refl)) (arrive_frame s.terms.patience xs id q carries r) new piece' n lent then_sits others tidy
      (omega (arith, count, ex.count))

  pub arrive_keeps : KeepsSlots s.slots (set s.slots k new)
  unfolding becomes
  arrive_keeps = one_keeps h s ex id k home (arrives xs) r standing becomes was.0 (inl (q, carries, refl)) (arrive_frame s.terms.patience xs id q carries r) new piece'
      (min (refusals_in (arrives xs) r + refusals h) most_refusals) s.lent then_sits others tidy refl

-- an arrival that leaves the table and the shelf alone
pub uncounted_still : (s : Seen) (xs : List ℕ) (r : Reply) → ((h : History) → Explains h s → ArrivalDue s.terms h xs r)
    → ((h : History) → Explains h s → (n : ℕ) → n ≡ min (s.refused + cond (accepted r) 0 1) most_refusals
    → Explains (record { call = arrives xs; reply = r } ∷ h) (record { terms = s.terms; slots = s.slots; piece = s.piece; refused = n; lent = s.lent })) → Uncounted (arrives xs) r s s
uncounted_still s xs r due explained = record { same_terms = refl; same_lent = refl; same_count = refl; keeps_slots = λ h ex. quiet_keeps h s ex; due = due; explained = explained }

-- no slot is left
module _ (h : History) (s : Seen) (ex : Explains h s) (xs id : List ℕ) (q : FragmentValue) (carries : Carries xs id q) (crowded : Crowded s.slots id) (r : Reply) (is : r ≡ refused_by 21) where
  pub crowd_due : ArrivalDue s.terms h xs r
  crowd_due =
      let li = listing h s ex in
      readable id q carries (record {
        standing = outside;
        stands = left_out h s ex id crowded.1;
        stays = li.0;
        listed = li.1;
        due = inl (omega (arith, li.3, all_used s.slots max_slots (λ k lt. crowded.0 k (omega (arith, ex.all_slots)))), is);
      })

  pub crowd_step : (n : ℕ) → n ≡ min (s.refused + cond (accepted r) 0 1) most_refusals → (lent : Lent)
      → Explains (record { call = arrives xs; reply = r } ∷ h) (record { terms = s.terms; slots = s.slots; piece = s.piece; refused = n; lent = lent })
  crowd_step n count lent = quiet_step h s ex (arrives xs) r n lent
      (λ i x st. elim (same_or id i) [
        | inl e ↦
            let o : outside ≡ x = stands_one s.terms.patience h i outside x (subst (λ (m : List ℕ). Stands s.terms.patience h m outside) e (left_out h s ex id crowded.1)) st in
            let c : Carries xs i q = subst (λ (m : List ℕ). Carries xs m q) e carries in
            let z : outside ≡ cond (accepted r) (inside (more q fresh)) outside = ap (λ (w : Bool). cond w (inside (more q fresh)) outside) (sym (ap accepted is)) in
            subst (λ (w : Standing). After s.terms.patience (arrives xs) r i w w) o (inl (q, c, z))
        | inr ne ↦ arrive_frame s.terms.patience xs id q carries r i ne x
      ])
      (omega (arith, count, ex.count))

-- the datagram carries nothing
module _ (h : History) (s : Seen) (ex : Explains h s) (xs : List ℕ) (e : Refusal) (bad : Refused xs e) (none : (v : PacketValue) → Encodes v xs → ⊥) (r : Reply) (is : r ≡ refused (fault_number e.fault) e.place e.layer) where
  pub unread_due : ArrivalDue s.terms h xs r
  unread_due = unreadable e bad none is

  pub unread_step : (n : ℕ) → n ≡ min (s.refused + cond (accepted r) 0 1) most_refusals → (lent : Lent)
      → Explains (record { call = arrives xs; reply = r } ∷ h) (record { terms = s.terms; slots = s.slots; piece = s.piece; refused = n; lent = lent })
  unread_step n count lent = quiet_step h s ex (arrives xs) r n lent (λ i x st. inr (λ q c. none c.value c.encodes, refl)) (omega (arith, count, ex.count))
