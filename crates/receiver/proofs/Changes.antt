-- How one call changes the table.
use Rattle.std.proofs.Common.{◌≡◌, ℕ, ◌+◌, ◌<◌, min, ◌⊎◌, List, ◌∷◌, set, None, sym, refl, ap, ◌∙◌, subst, inl, inr, arith, length-set, get_or-set_other, get_or-set_same}
use mathlib.Core.Path.{fun_ext}
use base.Fml.{GName}
use Rattle.std.proofs.lemmas.Bool.{cases_eq, true≢false}
use Rattle.wire.specs.Limits.{max_slots}
use Rattle.shelf.specs.declared.Shelf.{Ghosts}
use Rattle.shelf.specs.Pieces.{Pieces}
use Rattle.shelf.specs.Units.{Tidy}
use Rattle.history.specs.Calls.{Call, Reply, History, refusals_in, refusals, most_refusals}
use Rattle.history.specs.Stays.{Terms, Standing, outside, inside, After, Stands}
use Rattle.history.proofs.Standings.{same_or}
use Rattle.receiver.specs.declared.receiver.Receiver.{Receiver}
use Rattle.receiver.specs.Slots.{Slot, Bears, Sits, Seat, at}
use Rattle.receiver.specs.Tables.{Lent, Seen, Explains, KeepsSlots, seen}
use Rattle.receiver.specs.Parts.{Absent, Home, OnlyAt}

pub seat_of : (unit p : ℕ) (h : History) (id : List ℕ) (z : Standing) (s : Slot) (pc : ℕ → List ℕ) → Stands p h id z → Sits unit p id z s pc → Seat unit p h s pc
seat_of unit p h id outside s pc st si = inl si
seat_of unit p h id (inside l) s pc st si = inr (id, l, si.0, st, si.1)

sits_name : (unit p : ℕ) (id : List ℕ) (z : Standing) (s : Slot) (pc : ℕ → List ℕ) → Sits unit p id z s pc → (i : List ℕ) → Bears s i → i ≡ id
sits_name unit p id outside s pc si i b = absurd (true≢false (sym b.0 ∙ si.0))
sits_name unit p id (inside l) s pc si i b = sym b.1 ∙ si.0.1

out_or : (unit p : ℕ) (id : List ℕ) (z : Standing) (s : Slot) (pc : ℕ → List ℕ) → Sits unit p id z s pc → (z ≡ outside) ⊎ Bears s id
out_or unit p id outside s pc si = inl refl
out_or unit p id (inside l) s pc si = inr si.0

-- pieces that agree everywhere
pub sits_same : (unit p : ℕ) (id : List ℕ) (z : Standing) (s s' : Slot) (pc pc' : ℕ → List ℕ) → s' ≡ s → ((n : ℕ) → pc' n ≡ pc n) → Sits unit p id z s pc → Sits unit p id z s' pc'
sits_same unit p id z s s' pc pc' e f si = subst (λ (x : Slot). Sits unit p id z x pc') (sym e) (subst (λ (x : ℕ → List ℕ). Sits unit p id z s x) (sym (fun_ext f)) si)

-- an id that has no slot is in no stay
pub left_out : (h : History) (s : Seen) → Explains h s → (id : List ℕ) → Absent s.slots id → Stands s.terms.patience h id outside
left_out h s ex id absent = ex.absent id (λ k lt b. absent k (omega (arith, ex.all_slots)) b)

module _ (h : History) (s : Seen) (ex : Explains h s) (id : List ℕ) (k : ℕ) (home : Home s.slots id k) where
  pub within : k < max_slots
  within = omega (arith, home.0, ex.all_slots)

  -- how id stands
  pub found : (y : Standing) × Stands s.terms.patience h id y × Sits s.terms.unit s.terms.patience id y (at s.slots k) (s.piece k)
  found = elim home.1 [
    | inl own ↦ elim (ex.seats k within) [
      | inl d ↦ absurd (true≢false (sym own.0 ∙ d.0))
      | inr x ↦ (inside x.1, subst (λ (i : List ℕ). Stands s.terms.patience h i (inside x.1)) (sym x.2.1 ∙ own.1) x.3, (own, x.4))
    ]
    | inr free ↦ elim (ex.seats k within) [
      | inl d ↦ (outside, left_out h s ex id free.1, d)
      | inr x ↦ absurd (true≢false (sym x.2.0 ∙ free.0))
    ]
  ]

  -- another slot does not hold id
  elsewhere : (j : ℕ) → j < max_slots → (j ≡ k → ⊥) → Bears (at s.slots j) id → ⊥
  elsewhere j lt ne b = elim home.1 [ inl own ↦ ne (ex.apart j k id lt within b own) | inr free ↦ free.1 j (omega (arith, ex.all_slots)) b ]

  module _ (c : Call) (r : Reply) (y z : Standing) (stands : Stands s.terms.patience h id y) (after : After s.terms.patience c r id y z)
      (frame : (i : List ℕ) → (id ≡ i → ⊥) → (x : Standing) → After s.terms.patience c r i x x)
      (s' : Slot) (piece' : Pieces) (n : ℕ) (lent : Lent) (sits : Sits s.terms.unit s.terms.patience id z s' (piece' k))
      (others : (t m : ℕ) → (t ≡ k → ⊥) → piece' t m ≡ s.piece t m) (tidy : Tidy s.terms.unit s.terms.capacity piece')
      (count : n ≡ min (refusals_in c r + refusals h) most_refusals) where
    abbrev next : History
    next = record { call = c; reply = r } ∷ h

    here : at (set s.slots k s') k ≡ s'
    here = get_or-set_same s.slots k s' None (omega (arith, ex.all_slots, within))

    other : (j : ℕ) → (j ≡ k → ⊥) → at (set s.slots k s') j ≡ at s.slots j
    other j ne = get_or-set_other s.slots k j s' None ne

    now_stands : Stands s.terms.patience next id z
    now_stands = (y, stands, after)

    mine : (j : ℕ) (i : List ℕ) → j ≡ k → Bears (at (set s.slots k s') j) i → i ≡ id
    mine j i e b = sits_name _ _ id z s' (piece' k) sits i (subst (λ (x : Slot). Bears x i) (ap (λ (n : ℕ). at (set s.slots k s') n) e ∙ here) b)

    pub one_step : Explains next (record { terms = s.terms; slots = set s.slots k s'; piece = piece'; refused = n; lent = lent })
    one_step = record {
      patient = ex.patient;
      tidy = tidy;
      all_slots = length-set s.slots k s' ∙ ex.all_slots;
      seats = λ j lt. elim (cases_eq j k) [
        | inl e ↦ subst (λ (n : ℕ). Seat s.terms.unit s.terms.patience next (at (set s.slots k s') n) (piece' n)) (sym e)
            (subst (λ (x : Slot). Seat s.terms.unit s.terms.patience next x (piece' k)) (sym here) (seat_of _ _ next id z s' (piece' k) now_stands sits))
        | inr ne ↦
            subst (λ (x : Slot). Seat s.terms.unit s.terms.patience next x (piece' j)) (sym (other j ne))
            (subst (λ (x : ℕ → List ℕ). Seat s.terms.unit s.terms.patience next (at s.slots j) x) (sym (fun_ext (λ n. others j n ne)))
            (elim (ex.seats j lt) [
              | inl d ↦ inl d
              | inr x ↦ inr (x.0, x.1, x.2, (inside x.1, x.3, frame x.0 (λ e. elsewhere j lt ne (subst (λ (i : List ℕ). Bears (at s.slots j) i) (sym e) x.2)) (inside x.1)), x.4)
            ]))
      ];
      apart = λ i j n li lj bi bj. elim (cases_eq i k) [
        | inl e ↦ elim (cases_eq j k) [
          | inl f ↦ e ∙ sym f
          | inr nf ↦ absurd (elsewhere j lj nf (subst (λ (x : Slot). Bears x id) (other j nf) (subst (λ (m : List ℕ). Bears (at (set s.slots k s') j) m) (mine i n e bi) bj)))
        ]
        | inr ne ↦ elim (cases_eq j k) [
          | inl f ↦ absurd (elsewhere i li ne (subst (λ (x : Slot). Bears x id) (other i ne) (subst (λ (m : List ℕ). Bears (at (set s.slots k s') i) m) (mine j n f bj) bi)))
          | inr nf ↦ ex.apart i j n li lj (subst (λ (x : Slot). Bears x n) (other i ne) bi) (subst (λ (x : Slot). Bears x n) (other j nf) bj)
        ]
      ];
      absent = λ i none. elim (same_or id i) [
        | inl e ↦ elim (out_or _ _ id z s' (piece' k) sits) [
          | inl o ↦ subst (λ (m : List ℕ). Stands s.terms.patience next m outside) e (subst (λ (x : Standing). Stands s.terms.patience next id x) o now_stands)
          | inr b ↦ absurd (none k within (subst (λ (x : Slot). Bears x i) (sym here) (subst (λ (m : List ℕ). Bears s' m) e b)))
        ]
        | inr ne ↦ (
          outside,
          ex.absent i (λ j lt b. elim (cases_eq j k) [
            | inl f ↦ let b' : Bears (at s.slots k) i = subst (λ (n : ℕ). Bears (at s.slots n) i) f b in elim home.1 [ inl own ↦ ne (sym own.1 ∙ b'.1) | inr free ↦ true≢false (sym b'.0 ∙ free.0) ]
            | inr nf ↦ none j lt (subst (λ (x : Slot). Bears x i) (sym (other j nf)) b)
          ]),
          frame i ne outside,
        )
      ];
      count = count;
    }

    pub one_keeps : KeepsSlots s.slots (set s.slots k s')
    one_keeps i j m lj lm bj bm = elim (cases_eq m k) [
      | inl e ↦ elim (cases_eq j k) [
        | inl f ↦ f ∙ sym e
        | inr nf ↦ absurd (elsewhere j lj nf (subst (λ (w : List ℕ). Bears (at s.slots j) w) (mine m i e bm) bj))
      ]
      | inr ne ↦ ex.apart j m i lj lm bj (subst (λ (x : Slot). Bears x i) (other m ne) bm)
    ]

pub quiet_keeps : (h : History) (s : Seen) → Explains h s → KeepsSlots s.slots s.slots
quiet_keeps h s ex id j k lj lk bj bk = ex.apart j k id lj lk bj bk

-- a call that leaves every id as it stands
pub quiet_step : (h : History) (s : Seen) → Explains h s → (c : Call) (r : Reply) (n : ℕ) (lent : Lent) → ((i : List ℕ) (x : Standing) → Stands s.terms.patience h i x → After s.terms.patience c r i x x)
    → n ≡ min (refusals_in c r + refusals h) most_refusals → Explains (record { call = c; reply = r } ∷ h) (record { terms = s.terms; slots = s.slots; piece = s.piece; refused = n; lent = lent })
quiet_step h s ex c r n lent frame count = record {
  patient = ex.patient;
  tidy = ex.tidy;
  all_slots = ex.all_slots;
  seats = λ j lt. elim (ex.seats j lt) [ inl d ↦ inl d | inr x ↦ inr (x.0, x.1, x.2, (inside x.1, x.3, frame x.0 (inside x.1) x.3), x.4) ];
  apart = ex.apart;
  absent = λ i none. let o = ex.absent i none in (outside, o, frame i outside o);
  count = count;
}

-- what a history leads to does not hang on the memory lent
pub explains_as : (h : History) (s e : Seen) → e.terms ≡ s.terms → e.slots ≡ s.slots → e.piece ≡ s.piece → e.refused ≡ s.refused → Explains h s → Explains h e
explains_as h s e same_terms same-slots same_piece same_count ex =
    let as_lent : Explains h (record { terms = s.terms; slots = s.slots; piece = s.piece; refused = s.refused; lent = e.lent }) = record {
      patient = ex.patient;
      tidy = ex.tidy;
      all_slots = ex.all_slots;
      seats = ex.seats;
      apart = ex.apart;
      absent = ex.absent;
      count = ex.count;
    } in
    subst (λ (x : Terms). Explains h (record { terms = x; slots = e.slots; piece = e.piece; refused = e.refused; lent = e.lent })) (sym same_terms)
    (subst (λ (x : List Slot). Explains h (record { terms = s.terms; slots = x; piece = e.piece; refused = e.refused; lent = e.lent })) (sym same-slots)
    (subst (λ (x : Pieces). Explains h (record { terms = s.terms; slots = s.slots; piece = x; refused = e.refused; lent = e.lent })) (sym same_piece)
    (subst (λ (x : ℕ). Explains h (record { terms = s.terms; slots = s.slots; piece = s.piece; refused = x; lent = e.lent })) (sym same_count) as_lent)))

-- a receiver on the same shelf has the same terms
pub terms_as : (p u c c' : ℕ) → c' ≡ c → ◌≡◌ {A = Terms} (record { patience = p; unit = u; capacity = c' }) (record { patience = p; unit = u; capacity = c })
terms_as p u c c' e = ap (λ (n : ℕ). record { patience = p; unit = u; capacity = n }) e

pub lent_as : (l l' : GName) (r r' : List ℕ) → l' ≡ l → r' ≡ r → ◌≡◌ {A = Lent} (record { loan = l'; rest = r' }) (record { loan = l; rest = r })
lent_as l l' r r' e f = cc

-- a receiver on a shelf of which only the pieces of the slot k changed, with that slot new
pub only_at : {X : Type 0} (S : Ghosts X) (me : Receiver X) (x : X) (k : ℕ) (new : Slot) (slots : List Slot) → slots ≡ set me.slots k new → S.capacity x ≡ S.capacity me.shelf → S.loan x ≡ S.loan me.shelf → S.rest x ≡ S.rest me.shelf
    → ((t m : ℕ) → (t ≡ k → ⊥) → S.piece x t m ≡ S.piece me.shelf t m) → OnlyAt k new (seen S me) (seen S (record { shelf = x; slots = slots; patience = me.patience; refused = me.refused }))
only_at S me x k new slots is size loan rest others = record {
  same_terms = terms_as me.patience S.unit (S.capacity me.shelf) (S.capacity x) size;
  same_lent = lent_as _ _ _ _ loan rest;
  same_count = refl;
  others = others;
  slots = is;
}
