-- Stays: when an id has a slot, and what was heard of it then.
use Rattle.std.specs.Prelude.{◌≡◌, ℕ, ◌+◌, ◌<◌, ◌≤◌, Bool, true, false, cond, ◌⊎◌, List, [], ◌∷◌, length, ◌==◌, ◌≢◌}
use Rattle.shelf.specs.Units.{cost}
use Rattle.packet.specs.Packets.{PacketValue, Encodes}
use Rattle.collection.specs.Fragments.{FragmentValue, In, Contradict, Calm, Whole}
use Rattle.history.specs.Calls.{Call, Reply, History, arrives, fetches, ticks, asks, accepted, audible, hands_over}

-- what holds of a receiver for good: its patience, and its shelf's unit size and capacity
pub record Terms : Type 0 where
  pub patience : ℕ
  pub unit : ℕ
  pub capacity : ℕ

-- ---- one stay

-- a stay: the time in which an id has a slot. The packets heard in it, the last first,
-- whether it was fetched, and the ticks since a packet was last heard or it was fetched
pub record Stay : Type 0 where
  pub heard : List FragmentValue
  pub fetched : Bool
  pub since : ℕ

-- two of the packets contradict
abbrev pub Broken : List FragmentValue → Type 0
Broken ps = (a b : FragmentValue) × In a ps × In b ps × Contradict a b

-- whole, and not yet fetched
abbrev pub Waits : Stay → Type 0
Waits l = (l.fetched ≡ false) × Whole l.heard

-- before anything is heard
abbrev pub fresh : Stay
fresh = record { heard = []; fetched = false; since = 0 }

abbrev pub more : FragmentValue → Stay → Stay
more q l = record { heard = q ∷ l.heard; fetched = l.fetched; since = 0 }

abbrev pub later : Stay → Stay
later l = record { heard = l.heard; fetched = l.fetched; since = l.since + 1 }

-- with the patience p, the stay goes on at the next tick, or it ends
abbrev pub Survives : ℕ → Stay → Type 0
Survives p l = Waits l ⊎ (l.since + 1 < p)

abbrev pub Ends : ℕ → Stay → Type 0
Ends p l = (Waits l → ⊥) × (p ≤ l.since + 1)

-- ---- an id after a history

-- an id is in no stay, or in this one
pub data Standing : Type 0 where
  outside : Standing
  inside : Stay → Standing

abbrev pub stay_of : Standing → Stay
stay_of outside = fresh
stay_of (inside l) = l

-- a stay begins with a packet that is not refused
abbrev pub hears : Standing → Reply → Bool
hears outside r = accepted r
hears (inside l) r = audible r

abbrev pub fetched_now : Standing → Standing
fetched_now outside = outside
fetched_now (inside l) = inside (record { heard = l.heard; fetched = true; since = 0 })

-- what a tick makes of it
abbrev pub Passes : ℕ → Standing → Standing → Type 0
Passes p outside z = z ≡ outside
Passes p (inside l) z = (Survives p l × (z ≡ inside (later l))) ⊎ (Ends p l × (z ≡ outside))

abbrev pub fragment_of : PacketValue → FragmentValue
fragment_of v = record { number = v.number; count = v.count; stop = v.stop; body = v.body }

-- the datagram is that of a packet of id, which says q
pub record Carries (xs id : List ℕ) (q : FragmentValue) : Type 0 where
  pub value : PacketValue
  pub encodes : Encodes value xs
  pub id_is : value.id ≡ id
  pub says : fragment_of value ≡ q

-- with the patience p, an id that stands as y stands as z after the call
abbrev pub After : ℕ → Call → Reply → List ℕ → Standing → Standing → Type 0
After p (arrives xs) r id y z =
    ((q : FragmentValue) × Carries xs id q × (z ≡ cond (hears y r) (inside (more q (stay_of y))) y))
    ⊎ (((q : FragmentValue) → Carries xs id q → ⊥) × (z ≡ y))
After p (fetches i n) r id y z = ((i ≡ id) × (z ≡ cond (hands_over r) (fetched_now y) y)) ⊎ ((i ≢ id) × (z ≡ y))
After p ticks r id y z = Passes p y z
After p (asks i) r id y z = z ≡ y

-- how id stands after the history
abbrev pub Stands : ℕ → History → List ℕ → Standing → Type 0
Stands p [] id z = z ≡ outside
Stands p (s ∷ h) id z = (y : Standing) × Stands p h id y × After p s.call s.reply id y z

-- ---- all stays, and the units that they take

-- was the number n heard?
abbrev pub numbered : ℕ → List FragmentValue → Bool
numbered n [] = false
numbered n (a ∷ ps) = cond (a.number == n) true (numbered n ps)

-- the units that the bodies heard cost, each number once
abbrev pub weight : ℕ → List FragmentValue → ℕ
weight unit [] = 0
weight unit (q ∷ ps) = cond (numbered q.number ps) 0 (cost unit (length q.body)) + weight unit ps

-- a stay that gathers or is whole takes the units of its bodies, a spoiled or fetched one none
abbrev pub Weighs : ℕ → Stay → ℕ → Type 0
Weighs unit l w = ((l.fetched ≡ false) × Calm l.heard × (w ≡ weight unit l.heard))
    ⊎ (((l.fetched ≡ true) ⊎ Broken l.heard) × (w ≡ 0))

-- an id in its stay, and the units that this takes
pub record Placed : Type 0 where
  pub name : List ℕ
  pub stay : Stay
  pub units : ℕ

abbrev pub Among : Placed → List Placed → Type 0
Among z [] = ⊥
Among z (x ∷ xs) = (z ≡ x) ⊎ Among z xs

-- each id once
abbrev pub Apart : List Placed → Type 0
Apart [] = Unit {0}
Apart (x ∷ xs) = ((z : Placed) → Among z xs → z.name ≢ x.name) × Apart xs

abbrev pub units_of : List Placed → ℕ
units_of [] = 0
units_of (x ∷ xs) = x.units + units_of xs

-- zs are the ids that are in a stay after h, each once
pub record Stays (t : Terms) (h : History) (zs : List Placed) : Type 0 where
  pub apart : Apart zs
  pub each : (z : Placed) → Among z zs → Stands t.patience h z.name (inside z.stay) × Weighs t.unit z.stay z.units
  pub all : (id : List ℕ) (l : Stay) → Stands t.patience h id (inside l) → (z : Placed) × Among z zs × (z.name ≡ id)
