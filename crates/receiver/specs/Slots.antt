-- Slots: what a slot and its pieces keep of a stay.
use Rattle.std.specs.Prelude.{◌≡◌, ℕ, min, Bool, true, false, is_some, ◌⊎◌, List, [], length, take, Some, None, Option, slice_index_or}
use Rattle.wire.specs.Limits.{max_packets}
use Rattle.shelf.specs.Sums.{total}
use Rattle.shelf.specs.Units.{cost}
use Rattle.collection.specs.Kept.{Open}
use Rattle.history.specs.Calls.{History}
use Rattle.history.specs.Stays.{Stay, Standing, Broken, Stands, outside, inside, weight}
use Rattle.receiver.specs.declared.unique_id.UniqueId.{UniqueId}
use Rattle.receiver.specs.declared.stay.Stay.{Stay as SlotStay}
use Rattle.receiver.specs.declared.stay.Phase.{Phase}
use Rattle.receiver.specs.declared.stay.Phase.TheVariants.{Sound, Spoiled, Fetched}

-- a slot is free, or has the stay of an id
abbrev pub Slot : Type 0
Slot = Option SlotStay

-- the slot is not free
abbrev pub used : Slot → Bool
used s = is_some s

-- the bytes of an id
abbrev pub id_bytes : UniqueId → List ℕ
id_bytes i = take i.count i.bytes

-- the id whose stay the slot has
abbrev pub name_in : Slot → List ℕ
name_in None = []
name_in (Some s) = id_bytes s.id

-- the slot is in use, and its id is this
abbrev pub Bears : Slot → List ℕ → Type 0
Bears s id = (used s ≡ true) × (name_in s ≡ id)

-- the units that the pieces of a slot cost
abbrev pub row : ℕ → (ℕ → List ℕ) → ℕ
row unit piece = total (λ (n : ℕ). cost unit (length (piece n))) max_packets

abbrev pub Bare : (ℕ → List ℕ) → Type 0
Bare piece = (n : ℕ) → piece n ≡ []

-- what a stay in this phase, and the pieces of its slot, keep of the stay l of a history
abbrev pub Reflects : Phase → ℕ → Stay → (ℕ → List ℕ) → Type 0
Reflects (Sound s) unit l piece = (l.fetched ≡ false) × Open l.heard s piece × (row unit piece ≡ weight unit l.heard)
Reflects Spoiled unit l piece = (l.fetched ≡ false) × Broken l.heard × Bare piece
Reflects Fetched unit l piece = (l.fetched ≡ true) × Bare piece

abbrev pub Mirrors : ℕ → Stay → SlotStay → (ℕ → List ℕ) → Type 0
Mirrors unit l s piece = Reflects s.phase unit l piece

-- its age too, with the patience p; a free slot keeps no stay
abbrev pub Keeps : ℕ → ℕ → Stay → Slot → (ℕ → List ℕ) → Type 0
Keeps unit p l None piece = ⊥
Keeps unit p l (Some s) piece = Mirrors unit l s piece × (s.age ≡ min p l.since)

-- the slot for id, which stands so: a free one, or its own
abbrev pub Sits : ℕ → ℕ → List ℕ → Standing → Slot → (ℕ → List ℕ) → Type 0
Sits unit p id outside s piece = (used s ≡ false) × Bare piece
Sits unit p id (inside l) s piece = Bears s id × Keeps unit p l s piece

-- a slot is free, or that of an id that is in a stay after h
abbrev pub Seat : ℕ → ℕ → History → Slot → (ℕ → List ℕ) → Type 0
Seat unit p h s piece = ((used s ≡ false) × Bare piece) ⊎ ((id : List ℕ) × (l : Stay) × Bears s id × Stands p h id (inside l) × Keeps unit p l s piece)

-- the slot at a place of a table; past its end there is none, as if it were free
abbrev pub at : List Slot → ℕ → Slot
at slots k = slice_index_or slots k None
