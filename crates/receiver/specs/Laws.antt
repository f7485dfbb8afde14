-- The law of a receiver: what holds of every run of calls.
use Rattle.std.specs.Prelude.{◌≡◌, ℕ, ◌+◌, ◌<◌, true, false, ◌⊎◌, List, [], ◌∷◌, ◌≢◌}
use Rattle.wire.specs.Limits.{max_slots}
use Rattle.shelf.specs.Pieces.{Pieces}
use Rattle.shelf.specs.Units.{free_units}
use Rattle.collection.specs.Fragments.{FragmentValue, In, Heard, Calm}
use Rattle.history.specs.Calls.{Call, State, Reply, History, fetches, asks, told, none_yet}
use Rattle.history.specs.Stays.{Terms, Stay, Broken, Stays, Placed, Among, units_of}
use Rattle.history.specs.Answers.{AnswerDue, AllDue, BytesCall, BytesHistory, FetchedIfWhole, FetchedOnce}
use Rattle.history.specs.Orders.{Alike, Agree}
use Rattle.receiver.specs.Slots.{Bare}
use Rattle.receiver.specs.Tables.{Seen, Explains, Step}

-- the calls of h, the last first, take the receiver one after the other from s to e; each is a step, as the contracts
-- of arrive, fetch, tick and state promise
abbrev pub Run : Seen → History → Seen → Type 0
Run s [] e = e ≡ s
Run s (x ∷ h) e = (m : Seen) × Run s h m × Step x.call x.reply m e

-- ---- the shelf

-- the pieces are the bodies heard, each at its number, and nothing else
pub record Bodies (ps : List FragmentValue) (piece : ℕ → List ℕ) : Type 0 where
  pub each : (a : FragmentValue) → In a ps → piece a.number ≡ a.body
  pub no_other : (n : ℕ) → (Heard ps n → ⊥) → piece n ≡ []

-- a stay that gathers or is whole has its bodies in its slot, a spoiled or fetched one nothing
abbrev pub StayHeld : Stay → (ℕ → List ℕ) → Type 0
StayHeld l piece = ((l.fetched ≡ false) × Calm l.heard × Bodies l.heard piece) ⊎ (((l.fetched ≡ true) ⊎ Broken l.heard) × Bare piece)

-- the shelf holds just what was heard, each stay's bodies in a slot of its own, and its units are accounted for
pub record Shelved (t : Terms) (h : History) (piece : Pieces) : Type 0 where
  pub stays : List Placed
  pub listed : Stays t h stays
  pub slot : (z : Placed) → Among z stays → ℕ
  pub within : (z : Placed) (i : Among z stays) → slot z i < max_slots
  pub own : (y z : Placed) (i : Among y stays) (j : Among z stays) → slot y i ≡ slot z j → y.name ≡ z.name
  pub holds : (z : Placed) (i : Among z stays) → StayHeld z.stay (piece (slot z i))
  pub no_more : (k : ℕ) → ((z : Placed) (i : Among z stays) → slot z i ≢ k) → Bare (piece k)
  pub sum : free_units t.unit t.capacity piece + units_of stays ≡ t.capacity

-- ---- two runs

-- two runs of the same arrivals, the one from s to e and the other from o to f
pub record EndsAlike (s : Seen) (h : History) (e o : Seen) (g : History) (f : Seen) : Type 0 where
  pub agree : Agree s.terms h o.terms g
  -- a state question after either answers the same state, and a fetch, into buffers of equal length, the same with the same bytes
  pub same_state : (id : List ℕ) (v v' : State) (n n' : ℕ) (e' f' : Seen) → Step (asks id) (told v n) e e' → Step (asks id) (told v' n') f f' → v ≡ v'
  pub same_fetch : (id : List ℕ) (n : ℕ) (r r' : Reply) (e' f' : Seen) → Step (fetches id n) r e e' → Step (fetches id n) r' f f' → r ≡ r'

-- ---- the law

-- s is a new receiver, and in every run of calls from it
pub record Lawful (s : Seen) : Type 0 where
  -- nothing has happened yet
  pub new : Explains none_yet s
  -- each answer is the one due after the calls before it
  pub due : (h : History) (e : Seen) → Run s h e → AllDue s.terms h
  -- after any history of bytes some answer is due, and after any history no two are
  pub some : (h : History) (c : Call) → BytesHistory h → BytesCall c → (r : Reply) × AnswerDue s.terms h c r
  pub one : (h : History) (c : Call) (r r' : Reply) → AnswerDue s.terms h c r → AnswerDue s.terms h c r' → r ≡ r'
  -- a fetch hands out a message exactly where the state is whole, once a stay
  pub fetched_if_whole : (h : History) (id : List ℕ) → FetchedIfWhole s.terms h id
  pub fetched_once : (h : History) (id : List ℕ) → FetchedOnce s.terms h id
  -- the shelf holds what was heard
  pub shelved : (h : History) (e : Seen) → Run s h e → Shelved s.terms h e.piece
  -- any other new receiver, on a shelf of any kind, that gets the same arrivals and nothing else, in an order of its own,
  -- ends alike, unless an arrival of either is answered 21 or 22
  pub any_order : (h : History) (e : Seen) → Run s h e
      → (o : Seen) (g : History) (f : Seen) → Explains none_yet o → Run o g f → Alike h g → EndsAlike s h e o g f
