-- The answer that is due to a call after a history.
use Rattle.std.specs.Prelude.{◌≡◌, ℕ, ◌-◌, ◌<◌, ◌≤◌, min, true, false, ◌⊎◌, List, [], ◌∷◌, length}
use Rattle.wire.specs.Limits.{max_packets, max_slots}
use Rattle.wire.specs.Numbers.{Octets}
use Rattle.wire.specs.Refusals.{fault_number}
use Rattle.wire.specs.declared.refusal.Refusal.{Refusal}
use Rattle.shelf.specs.Units.{cost}
use Rattle.packet.specs.Packets.{PacketValue, Encodes}
use Rattle.packet.specs.Datagrams.{Refused}
use Rattle.collection.specs.Fragments.{FragmentValue, Against, Heard, Calm, Whole, Message, Counted, LowestUnheard}
use Rattle.history.specs.Calls.{Call, State, Reply, Said, History, arrives, fetches, ticks, asks, is_none, is_gathering, is_whole, is_spoiled, is_fetched, kept, repeated, completed, refused, delivered, done, told, refused_by, refusals, most_refusals}
use Rattle.history.specs.Stays.{Terms, Stay, Standing, Broken, Stands, Stays, Placed, Carries, fresh, outside, inside, units_of}

-- ---- an arrival

-- the answer r is due to the packet q of the stay l, where so many units are free
pub data PacketAnswer (unit free : ℕ) (q : FragmentValue) (l : Stay) (r : Reply) : Type 0 where
  after_fetch : l.fetched ≡ true → r ≡ refused_by 25 → PacketAnswer unit free q l r
  after_spoil : l.fetched ≡ false → Broken l.heard → r ≡ refused_by 24 → PacketAnswer unit free q l r
  contradicts : l.fetched ≡ false → Calm l.heard → Against l.heard q → r ≡ refused_by 23 → PacketAnswer unit free q l r
  again : l.fetched ≡ false → Calm (q ∷ l.heard) → Heard l.heard q.number → r ≡ repeated → PacketAnswer unit free q l r
  no_room : l.fetched ≡ false → Calm (q ∷ l.heard) → (Heard l.heard q.number → ⊥) → free < cost unit (length q.body) → r ≡ refused_by 22 → PacketAnswer unit free q l r
  completes : l.fetched ≡ false → Whole (q ∷ l.heard) → (Heard l.heard q.number → ⊥) → cost unit (length q.body) ≤ free → r ≡ completed → PacketAnswer unit free q l r
  goes_on : l.fetched ≡ false → Calm (q ∷ l.heard) → (Whole (q ∷ l.heard) → ⊥) → (Heard l.heard q.number → ⊥) → cost unit (length q.body) ≤ free → r ≡ kept → PacketAnswer unit free q l r

-- the answer r is due to the packet q of an id that stands so, where so many ids are in a stay and so many units are free
abbrev pub PacketAnswerAt : ℕ → ℕ → ℕ → FragmentValue → Standing → Reply → Type 0
PacketAnswerAt unit count free q outside r = ((max_slots ≤ count) × (r ≡ refused_by 21)) ⊎ ((count < max_slots) × PacketAnswer unit free q fresh r)
PacketAnswerAt unit count free q (inside l) r = PacketAnswer unit free q l r

pub record PacketDue (t : Terms) (h : History) (id : List ℕ) (q : FragmentValue) (r : Reply) : Type 0 where
  pub standing : Standing
  pub stands : Stands t.patience h id standing
  pub stays : List Placed
  pub listed : Stays t h stays
  pub due : PacketAnswerAt t.unit (length stays) (t.capacity - units_of stays) q standing r

-- the bytes are those of a packet, or refused as reading them is
pub data ArrivalDue (t : Terms) (h : History) (xs : List ℕ) (r : Reply) : Type 0 where
  readable : (id : List ℕ) (q : FragmentValue) → Carries xs id q → PacketDue t h id q r → ArrivalDue t h xs r
  unreadable : (e : Refusal) → Refused xs e → ((v : PacketValue) → Encodes v xs → ⊥) → r ≡ refused (fault_number e.fault) e.place e.layer → ArrivalDue t h xs r

-- ---- a fetch

-- the answer r is due to a fetch of the stay l into a buffer of n bytes
pub data FetchAnswer (n : ℕ) (l : Stay) (r : Reply) : Type 0 where
  gathers : l.fetched ≡ false → Calm l.heard → (Whole l.heard → ⊥) → r ≡ refused_by 27 → FetchAnswer n l r
  spoilt : l.fetched ≡ false → Broken l.heard → r ≡ refused_by 24 → FetchAnswer n l r
  fetched_before : l.fetched ≡ true → r ≡ refused_by 25 → FetchAnswer n l r
  too_short : l.fetched ≡ false → Whole l.heard → (bytes : List ℕ) → Message l.heard bytes → n < length bytes → r ≡ refused_by 10 → FetchAnswer n l r
  hands_out : l.fetched ≡ false → Whole l.heard → (bytes : List ℕ) → Message l.heard bytes → length bytes ≤ n → r ≡ delivered bytes → FetchAnswer n l r

abbrev pub FetchAnswerAt : ℕ → Standing → Reply → Type 0
FetchAnswerAt n outside r = r ≡ refused_by 26
FetchAnswerAt n (inside l) r = FetchAnswer n l r

pub record FetchDue (t : Terms) (h : History) (id : List ℕ) (n : ℕ) (r : Reply) : Type 0 where
  pub standing : Standing
  pub stands : Stands t.patience h id standing
  pub due : FetchAnswerAt n standing r

-- ---- a state question

-- the state of the stay l is v
pub data StayState (l : Stay) (v : State) : Type 0 where
  looks_gathering : l.fetched ≡ false → Calm l.heard → (Whole l.heard → ⊥) → (n low : ℕ) → Counted l.heard max_packets n → LowestUnheard l.heard low → v ≡ is_gathering n low → StayState l v
  looks_whole : l.fetched ≡ false → Whole l.heard → (bytes : List ℕ) → Message l.heard bytes → v ≡ is_whole (length bytes) → StayState l v
  looks_spoiled : l.fetched ≡ false → Broken l.heard → v ≡ is_spoiled → StayState l v
  looks_fetched : l.fetched ≡ true → v ≡ is_fetched → StayState l v

abbrev pub StateOfId : Standing → State → Type 0
StateOfId outside v = v ≡ is_none
StateOfId (inside l) v = StayState l v

-- the state is told, and how many arrivals were refused
pub record StateDue (t : Terms) (h : History) (id : List ℕ) (r : Reply) : Type 0 where
  pub standing : Standing
  pub stands : Stands t.patience h id standing
  pub state : State
  pub due : StateOfId standing state
  pub is : r ≡ told state (min (refusals h) most_refusals)

-- ---- any call

abbrev pub AnswerDue : Terms → History → Call → Reply → Type 0
AnswerDue t h (arrives xs) r = ArrivalDue t h xs r
AnswerDue t h (fetches i n) r = FetchDue t h i n r
AnswerDue t h ticks r = r ≡ done
AnswerDue t h (asks i) r = StateDue t h i r

-- a fetch of id hands out its message exactly where its state is whole and the buffer has room
pub record FetchedIfWhole (t : Terms) (h : History) (id : List ℕ) : Type 0 where
  pub whole_first : (n : ℕ) (bytes : List ℕ) → AnswerDue t h (fetches id n) (delivered bytes)
      → (length bytes ≤ n) × AnswerDue t h (asks id) (told (is_whole (length bytes)) (min (refusals h) most_refusals))
  pub whole_fetched : (n size count : ℕ) → AnswerDue t h (asks id) (told (is_whole size) count) → size ≤ n
      → (bytes : List ℕ) × (length bytes ≡ size) × AnswerDue t h (fetches id n) (delivered bytes)

-- and just once a stay: the stay is fetched from then on until it ends, and a fetched stay hands out nothing
pub record FetchedOnce (t : Terms) (h : History) (id : List ℕ) : Type 0 where
  pub then_fetched : (n : ℕ) (bytes : List ℕ) (l : Stay) → Stands t.patience (record { call = fetches id n; reply = delivered bytes } ∷ h) id (inside l) → l.fetched ≡ true
  pub still_fetched : (x : Said) (l m : Stay) → Stands t.patience h id (inside l) → l.fetched ≡ true → Stands t.patience (x ∷ h) id (inside m) → m.fetched ≡ true
  pub nothing_more : (n : ℕ) (l : Stay) → Stands t.patience h id (inside l) → l.fetched ≡ true → AnswerDue t h (fetches id n) (refused_by 25)

-- each answer of the history is the one due after the calls before it
abbrev pub AllDue : Terms → History → Type 0
AllDue t [] = Unit {0}
AllDue t (x ∷ h) = AllDue t h × AnswerDue t h x.call x.reply

-- after any history no two answers are due to a call
abbrev pub OneAnswer : Type 0
OneAnswer = (t : Terms) (h : History) (c : Call) (r r' : Reply) → AnswerDue t h c r → AnswerDue t h c r' → r ≡ r'

-- the datagrams of a call, and those of a history, are lists of bytes
abbrev pub BytesCall : Call → Type 0
BytesCall (arrives xs) = Octets xs
BytesCall (fetches i n) = Unit {0}
BytesCall ticks = Unit {0}
BytesCall (asks i) = Unit {0}

abbrev pub BytesHistory : History → Type 0
BytesHistory [] = Unit {0}
BytesHistory (x ∷ h) = BytesHistory h × BytesCall x.call

-- after any history some answer is due to a call
abbrev pub SomeAnswer : Type 0
SomeAnswer = (t : Terms) (h : History) (c : Call) → BytesHistory h → BytesCall c → (r : Reply) × AnswerDue t h c r
