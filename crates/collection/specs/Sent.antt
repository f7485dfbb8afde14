-- The packets that a message is sent in.
use Rattle.std.specs.Prelude.{◌≡◌, ℕ, ◌+◌, ◌*◌, ◌<◌, ◌≤◌, ◌↔◌, true, ◌⊎◌, List, length, take, drop}
use Rattle.collection.specs.Fragments.{FragmentValue, In, Heard, Contradict, Whole, Message}

-- the message m is cut into n bodies, each but the last of size bytes, and the last of at least 1 and at most size bytes
pub record Cut (m : List ℕ) (size n : ℕ) : Type 0 where
  pub some : 0 < n
  pub more : n * size < length m + size
  pub most : length m ≤ n * size

-- q is a packet of that message: the body is the piece at its number, only the last is a stop packet, and it says the count n or none
pub record Of (m : List ℕ) (size n : ℕ) (q : FragmentValue) : Type 0 where
  pub placed : q.number < n
  pub body : q.body ≡ take size (drop (q.number * size) m)
  pub stop : (q.stop ≡ true) ↔ (q.number + 1 ≡ n)
  pub count : (q.count ≡ 0) ⊎ (q.count ≡ n)

-- packets of one message never contradict, and where every number was heard it is whole with that message
pub record SentHeard : Type 0 where
  pub never : (m : List ℕ) (size n : ℕ) → Cut m size n → (a b : FragmentValue) → Of m size n a → Of m size n b → Contradict a b → ⊥
  pub whole : (m : List ℕ) (size n : ℕ) (ps : List FragmentValue) → Cut m size n → ((a : FragmentValue) → In a ps → Of m size n a) → ((k : ℕ) → k < n → Heard ps k) → Whole ps × Message ps m
