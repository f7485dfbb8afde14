-- Two histories of the same arrivals, each in an order of its own.
use Rattle.std.specs.Prelude.{◌≡◌, ℕ, ◌*◌, ◌<◌, ◌≤◌, false, List, [], ◌∷◌, length, ◌≢◌}
use Rattle.std.specs.List.{ContainsAt as Has}
use Rattle.std.specs.List.Sorted.{IsPermutation}
use Rattle.wire.specs.Limits.{max_packets}
use Rattle.packet.specs.Packets.{PacketValue}
use Rattle.sender.specs.Packets.{Plan, LawfulPlan, packets_of}
use Rattle.collection.specs.Fragments.{FragmentValue, In, Whole}
use Rattle.history.specs.Calls.{Call, State, Reply, History, arrives, fetches, ticks, asks, told, delivered, refused_by, calls}
use Rattle.history.specs.Stays.{Terms, Stay, Standing, Broken, Stands, inside, fragment_of}
use Rattle.history.specs.Answers.{AnswerDue, AllDue}

abbrev pub IsArrival : Call → Type 0
IsArrival (arrives xs) = Unit {0}
IsArrival (fetches i n) = ⊥
IsArrival ticks = ⊥
IsArrival (asks i) = ⊥

-- arrivals only, none of them answered 21 or 22
abbrev pub Unhindered : History → Type 0
Unhindered [] = Unit {0}
Unhindered (x ∷ h) = Unhindered h × IsArrival x.call × (x.reply ≢ refused_by 21) × (x.reply ≢ refused_by 22)

-- the same arrivals and nothing else, in any two orders, none of them answered 21 or 22
pub record Alike (g h : History) : Type 0 where
  pub unhindered : Unhindered g
  pub unhindered_too : Unhindered h
  pub shuffled : IsPermutation (calls g) (calls h)

-- id is whole, or spoiled, after the history
abbrev pub IsWhole : Terms → History → List ℕ → Type 0
IsWhole t h id = (l : Stay) × Stands t.patience h id (inside l) × (l.fetched ≡ false) × Whole l.heard

abbrev pub IsSpoiled : Terms → History → List ℕ → Type 0
IsSpoiled t h id = (l : Stay) × Stands t.patience h id (inside l) × (l.fetched ≡ false) × Broken l.heard

-- what was heard is, repeats aside, all packets of the message m
pub record AllPackets (p : Plan) (m : List ℕ) (ps : List FragmentValue) : Type 0 where
  pub only : (a : FragmentValue) → In a ps → (v : PacketValue) × Has (packets_of p m) v × (a ≡ fragment_of v)
  pub every : (v : PacketValue) → Has (packets_of p m) v → In (fragment_of v) ps

-- some sender's message of a byte or more
pub record Sendable (p : Plan) (m : List ℕ) : Type 0 where
  pub lawful_plan : LawfulPlan p
  pub some_byte : 0 < length m
  pub fits : length m ≤ max_packets * p.cut

-- id is whole after the history with the message m
pub record WholeWith (t : Terms) (h : History) (id m : List ℕ) : Type 0 where
  pub is_whole : IsWhole t h id
  pub fetched_as : (n : ℕ) → length m ≤ n → AnswerDue t h (fetches id n) (delivered m)

-- the same ids are whole, the same are spoiled, a fetch of any id into buffers of equal length is answered by the same
-- bytes or the same refusal, and an id of which just one sender's message was heard, all of it, is whole in both with that
pub record Agree (t : Terms) (g : History) (u : Terms) (h : History) : Type 0 where
  pub whole : (id : List ℕ) → IsWhole t g id → IsWhole u h id
  pub whole_back : (id : List ℕ) → IsWhole u h id → IsWhole t g id
  pub spoiled : (id : List ℕ) → IsSpoiled t g id → IsSpoiled u h id
  pub spoiled_back : (id : List ℕ) → IsSpoiled u h id → IsSpoiled t g id
  -- the state of each id is the same; how many arrivals were refused may differ
  pub state : (id : List ℕ) (v : State) (n : ℕ) → AnswerDue t g (asks id) (told v n) → (m : ℕ) × AnswerDue u h (asks id) (told v m)
  pub state_back : (id : List ℕ) (v : State) (m : ℕ) → AnswerDue u h (asks id) (told v m) → (n : ℕ) × AnswerDue t g (asks id) (told v n)
  pub fetch : (id : List ℕ) (n : ℕ) (r : Reply) → AnswerDue t g (fetches id n) r → AnswerDue u h (fetches id n) r
  pub fetch_back : (id : List ℕ) (n : ℕ) (r : Reply) → AnswerDue u h (fetches id n) r → AnswerDue t g (fetches id n) r
  pub message : (id : List ℕ) (l : Stay) (p : Plan) (m : List ℕ) → Sendable p m → Stands t.patience g id (inside l) → AllPackets p m l.heard
      → WholeWith t g id m × WholeWith u h id m

-- where every answer of both is due, and each id stands somehow
abbrev pub OrdersAgree : Type 0
OrdersAgree = (t u : Terms) (g h : History) → AllDue t g → AllDue u h
    → ((id : List ℕ) → (z : Standing) × Stands t.patience g id z) → ((id : List ℕ) → (z : Standing) × Stands u.patience h id z)
    → Alike g h → Agree t g u h
