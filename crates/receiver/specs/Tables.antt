-- Tables: a receiver's slots and shelf as a history leaves them.
use Rattle.std.specs.Prelude.{◌≡◌, ℕ, ◌<◌, min, List, ◌∷◌, length}
use Rattle.std.specs.Borrow.{GName}
use Rattle.wire.specs.Limits.{max_slots}
use Rattle.shelf.specs.Pieces.{Pieces}
use Rattle.shelf.specs.Units.{Tidy}
use Rattle.shelf.specs.declared.Shelf.{Ghosts}
use Rattle.history.specs.Calls.{Call, Reply, History, refusals, most_refusals}
use Rattle.history.specs.Stays.{Terms, Stands, outside}
use Rattle.history.specs.Answers.{AnswerDue}
use Rattle.receiver.specs.declared.receiver.Receiver.{Receiver}
use Rattle.receiver.specs.Slots.{Slot, Bears, Seat, at}

-- the patience where 0 is given
abbrev pub default_patience : ℕ
default_patience = 50

-- the memory that the shelf stands on, and what stands there past its units
pub record Lent : Type 0 where
  pub loan : GName
  pub rest : List ℕ

-- what is seen of a receiver
pub record Seen : Type 0 where
  pub terms : Terms
  pub slots : List Slot
  pub piece : Pieces
  pub refused : ℕ
  pub lent : Lent

abbrev pub seen : {X : Type 0} → Ghosts X → Receiver X → Seen
seen g r = record {
  terms = record { patience = r.patience; unit = g.unit; capacity = g.capacity r.shelf };
  slots = r.slots;
  piece = g.piece r.shelf;
  refused = r.refused;
  lent = record { loan = g.loan r.shelf; rest = g.rest r.shelf };
}

-- the history h explains the receiver s: for each slot in use one stay and for each stay one slot, with what was heard in it
pub record Explains (h : History) (s : Seen) : Type 0 where
  pub patient : 0 < s.terms.patience
  pub tidy : Tidy s.terms.unit s.terms.capacity s.piece
  pub all_slots : length s.slots ≡ max_slots
  pub seats : (k : ℕ) → k < max_slots → Seat s.terms.unit s.terms.patience h (at s.slots k) (s.piece k)
  pub apart : (j k : ℕ) (id : List ℕ) → j < max_slots → k < max_slots → Bears (at s.slots j) id → Bears (at s.slots k) id → j ≡ k
  pub absent : (id : List ℕ) → ((k : ℕ) → k < max_slots → Bears (at s.slots k) id → ⊥) → Stands s.terms.patience h id outside
  pub count : s.refused ≡ min (refusals h) most_refusals

-- an id that has a slot before and after has the same
abbrev pub KeepsSlots : List Slot → List Slot → Type 0
KeepsSlots before after = (id : List ℕ) (j k : ℕ) → j < max_slots → k < max_slots → Bears (at before j) id → Bears (at after k) id → j ≡ k

-- the call c is answered by r and takes the receiver from s to e: for every history that explains s,
-- r is the answer due, and the history with this call explains e
pub record Step (c : Call) (r : Reply) (s e : Seen) : Type 0 where
  pub same_terms : e.terms ≡ s.terms
  pub same_lent : e.lent ≡ s.lent
  pub due : (h : History) → Explains h s → AnswerDue s.terms h c r
  pub explained : (h : History) → Explains h s → Explains (record { call = c; reply = r } ∷ h) e
  pub keeps_slots : (h : History) → Explains h s → KeepsSlots s.slots e.slots
