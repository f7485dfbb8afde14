-- Parts: what the steps inside of a call do.
use Rattle.std.specs.Prelude.{◌≡◌, ℕ, ◌<◌, ◌≤◌, ◌+◌, ◌↔◌, IsTrue, min, Bool, true, false, cond, ◌⊎◌, List, [], ◌∷◌, ◌++◌, length, drop, slice_set, Some, None, ◌≢◌}
use Rattle.shelf.specs.Pieces.{Pieces}
use Rattle.shelf.specs.Units.{free_units}
use Rattle.shelf.specs.declared.Shelf.{Ghosts}
use Rattle.collection.specs.Fragments.{FragmentValue, Whole}
use Rattle.collection.specs.Kept.{Open}
use Rattle.collection.specs.declared.summary.Summary.{Summary}
use Rattle.history.specs.Calls.{Call, State, Reply, History, told, accepted, audible, most_refusals}
use Rattle.history.specs.Stays.{Stay, Waits, Survives, Ends, later, more}
use Rattle.history.specs.Answers.{PacketAnswer, StateDue, AnswerDue}
use Rattle.receiver.specs.declared.answers.Outcome.{Outcome}
use Rattle.receiver.specs.declared.answers.Outcome.TheVariants as outcome
use Rattle.receiver.specs.declared.stay.Stay.{Stay as SlotStay}
use Rattle.receiver.specs.declared.stay.Phase.{Phase}
use Rattle.receiver.specs.declared.stay.Phase.TheVariants.{Sound}
use Rattle.receiver.specs.Slots.{Slot, Bears, Bare, Mirrors, Keeps, used, id_bytes, name_in, at}
use Rattle.receiver.specs.Tables.{Lent, Seen, Explains, KeepsSlots}

-- no slot is that of id
abbrev pub Absent : List Slot → List ℕ → Type 0
Absent slots id = (k : ℕ) → k < length slots → Bears (at slots k) id → ⊥

-- the slot k is that of id
abbrev pub OwnSlot : List Slot → List ℕ → ℕ → Type 0
OwnSlot slots id k = (k < length slots) × Bears (at slots k) id

-- the slot k is that of id, and has the stay s
abbrev pub OwnStay : List Slot → List ℕ → ℕ → SlotStay → Type 0
OwnStay slots id k s = OwnSlot slots id k × (at slots k ≡ Some s)

-- no slot is free
abbrev pub AllTaken : List Slot → Type 0
AllTaken slots = (k : ℕ) → k < length slots → used (at slots k) ≡ true

-- the slot k is free
abbrev pub FreeSlot : List Slot → ℕ → Type 0
FreeSlot slots k = (k < length slots) × (used (at slots k) ≡ false)

-- the slot k is that for id: its own, or a free one and none is its own
abbrev pub Home : List Slot → List ℕ → ℕ → Type 0
Home slots id k = (k < length slots) × (Bears (at slots k) id ⊎ ((used (at slots k) ≡ false) × Absent slots id))

-- there is no slot for id
abbrev pub Crowded : List Slot → List ℕ → Type 0
Crowded slots id = AllTaken slots × Absent slots id

-- the stay in the slot s as a packet of id finds it: in a free slot one begins
abbrev pub Begun : Slot → List ℕ → SlotStay → Type 0
Begun (Some s) id r = r ≡ s
Begun None id r = (id_bytes r.id ≡ id) × (c : Summary) × (r.phase ≡ Sound c) × ((piece : ℕ → List ℕ) → Bare piece → Open [] c piece)

-- the stay in this phase, at age 0
abbrev pub turned_to : Phase → SlotStay → SlotStay
turned_to f s = record { id = s.id; age = 0; phase = f }

-- what is seen of a shelf
pub record Held : Type 0 where
  pub unit : ℕ
  pub capacity : ℕ
  pub piece : Pieces
  pub lent : Lent

abbrev pub held : {X : Type 0} → Ghosts X → X → Held
held g s = record { unit = g.unit; capacity = g.capacity s; piece = g.piece s; lent = record { loan = g.loan s; rest = g.rest s } }

-- the shelf b is a, but for its pieces
pub record SameShelf (a b : Held) : Type 0 where
  pub same_capacity : b.capacity ≡ a.capacity
  pub same_lent : b.lent ≡ a.lent

-- the packet q in a slot with the stay l: `old` is the slot as it was, `begun` its stay as the packet found it, `new` the slot as it is then
pub record PacketEffect (unit free : ℕ) (l : Stay) (q : FragmentValue) (r : Reply) (old : Slot) (begun : SlotStay) (new : Slot) (piece piece' : ℕ → List ℕ) : Type 0 where
  pub due : PacketAnswer unit free q l r
  pub unheard : audible r ≡ false → (new ≡ old) × ((n : ℕ) → piece' n ≡ piece n)
  pub heard : audible r ≡ true → (s : SlotStay) × (new ≡ Some s) × (s.id ≡ begun.id) × (s.age ≡ 0) × Mirrors unit (more q l) s piece'

-- of the table and the shelf only the slot k, which is `new` then, and its pieces change
pub record OnlyAt (k : ℕ) (new : Slot) (s e : Seen) : Type 0 where
  pub same_terms : e.terms ≡ s.terms
  pub same_lent : e.lent ≡ s.lent
  pub same_count : e.refused ≡ s.refused
  pub others : (t m : ℕ) → (t ≢ k) → e.piece t m ≡ s.piece t m
  pub slots : e.slots ≡ slice_set s.slots k new

-- any packet q in the slot k
pub record TakenIn (k : ℕ) (q : FragmentValue) (r : Reply) (begun : SlotStay) (s e : Seen) : Type 0 where
  pub new : Slot
  pub only_here : OnlyAt k new s e
  pub heeds : (l : Stay) → 0 < s.terms.unit → Mirrors s.terms.unit l begun (s.piece k)
      → PacketEffect s.terms.unit (free_units s.terms.unit s.terms.capacity s.piece) l q r (at s.slots k) begun new (s.piece k) (e.piece k)

-- what a new packet comes to, with which these were heard
abbrev pub Completes : List FragmentValue → Outcome → Type 0
Completes ps outcome.Whole = Whole ps
Completes ps outcome.Kept = Whole ps → ⊥
Completes ps outcome.Repeated = ⊥

-- the bytes, if they fit, are put at the start of a buffer that held `was` and holds `new`
abbrev pub Joins : List ℕ → List ℕ → List ℕ → Type 0
Joins bytes was new = length bytes ≤ length was → new ≡ bytes ++ drop (length bytes) was

-- b says whether the message of a stay is whole and not yet fetched
abbrev pub TellsWaiting : Bool → SlotStay → Type 0
TellsWaiting b s = (unit : ℕ) (l : Stay) (piece : ℕ → List ℕ) → Mirrors unit l s piece → IsTrue b ↔ Waits l

-- a slot a tick later, with the patience p
pub record Older (p : ℕ) (s r : Slot) : Type 0 where
  pub free : used s ≡ false → used r ≡ false
  pub goes : (unit : ℕ) (l : Stay) (piece : ℕ → List ℕ) → Keeps unit p l s piece → (Survives p l × Keeps unit p (later l) r piece) ⊎ (Ends p l × (used r ≡ false))
  pub named : used r ≡ true → name_in r ≡ name_in s

-- a slot and its pieces a tick later
pub record Later (p : ℕ) (s s' : Slot) (piece piece' : ℕ → List ℕ) : Type 0 where
  pub older : Older p s s'
  pub bare : used s ≡ true → used s' ≡ false → (n : ℕ) → piece' n ≡ []
  pub kept : (used s ≡ false) ⊎ (used s' ≡ true) → (n : ℕ) → piece' n ≡ piece n

-- a tick passes for the slot k
pub record SlotAged (k : ℕ) (s e : Seen) : Type 0 where
  pub new : Slot
  pub only_here : OnlyAt k new s e
  pub later : Later s.terms.patience (at s.slots k) new (s.piece k) (e.piece k)

-- a step that has yet to be counted
pub record Uncounted (c : Call) (r : Reply) (s e : Seen) : Type 0 where
  pub same_terms : e.terms ≡ s.terms
  pub same_lent : e.lent ≡ s.lent
  pub same_count : e.refused ≡ s.refused
  pub due : (h : History) → Explains h s → AnswerDue s.terms h c r
  pub keeps_slots : (h : History) → Explains h s → KeepsSlots s.slots e.slots
  pub explained : (h : History) → Explains h s → (n : ℕ) → n ≡ min (s.refused + cond (accepted r) 0 1) most_refusals
      → Explains (record { call = c; reply = r } ∷ h) (record { terms = e.terms; slots = e.slots; piece = e.piece; refused = n; lent = e.lent })

-- v is the state of id, for every history that explains s
abbrev pub StateKnown : List ℕ → State → Seen → Type 0
StateKnown id v s = (h : History) → Explains h s → StateDue s.terms h id (told v s.refused)
