-- The packets of one unique id, and what they say together.
use Rattle.std.specs.Prelude.{◌≡◌, ℕ, zero, suc, ◌+◌, ◌<◌, ◌≤◌, ◌↔◌, Bool, true, false, ◌⊎◌, List, [], ◌∷◌, ◌++◌, length, ◌≢◌}
use Rattle.wire.specs.Limits.{max_packets, max_piece}

-- a fragment of a message, which is what a packet says beside its unique id and byte order: its number,
-- the count of the message's packets or 0 if it says none, whether it is the stop packet, and its body, a piece of the message
pub record FragmentValue : Type 0 where
  pub number : ℕ
  pub count : ℕ
  pub stop : Bool
  pub body : List ℕ

-- no packet was heard
abbrev pub no_fragments : List FragmentValue
no_fragments = []

-- a packet's number, its count and the size of its body are within the limits: no body is empty
abbrev pub Limits : ℕ → ℕ → ℕ → Type 0
Limits number count size = (number < max_packets) × (count ≤ max_packets) × (1 ≤ size) × (size ≤ max_piece)

-- what every packet keeps by itself: the limits, and if it says a count, a number below it, which is the last exactly in a stop packet
pub record Ranged (p : FragmentValue) : Type 0 where
  pub limits : Limits p.number p.count (length p.body)
  pub within : 0 < p.count → p.number < p.count
  pub ends : 0 < p.count → (p.stop ≡ true) ↔ (p.number + 1 ≡ p.count)

-- ---- two packets

-- the same number, with another body or another stop flag
abbrev pub OtherPiece : FragmentValue → FragmentValue → Type 0
OtherPiece a b = (a.number ≡ b.number) × ((a.body ≡ b.body) × (a.stop ≡ b.stop) → ⊥)

-- both say a count, and not the same
abbrev pub OtherCount : FragmentValue → FragmentValue → Type 0
OtherCount a b = (0 < a.count) × (0 < b.count) × (a.count ≢ b.count)

-- a is a stop packet, and b has a higher number
abbrev pub PastStop : FragmentValue → FragmentValue → Type 0
PastStop a b = (a.stop ≡ true) × (a.number < b.number)

-- a says a count n, and b's number is n or more, or b's stop flag is not set exactly at n - 1
abbrev pub OutsideCount : FragmentValue → FragmentValue → Type 0
OutsideCount a b = (0 < a.count) × ((a.count ≤ b.number) ⊎ (¬ ((b.stop ≡ true) ↔ (b.number + 1 ≡ a.count))))

-- neither is a stop packet, and the bodies differ in length
abbrev pub OtherLength : FragmentValue → FragmentValue → Type 0
OtherLength a b = (a.stop ≡ false) × (b.stop ≡ false) × (length a.body ≢ length b.body)

-- a is a stop packet, b is not, and a's body is the longer
abbrev pub LongerStop : FragmentValue → FragmentValue → Type 0
LongerStop a b = (a.stop ≡ true) × (b.stop ≡ false) × (length b.body < length a.body)

-- R holds of the two, in one order or the other
abbrev pub Either : (FragmentValue → FragmentValue → Type 0) → FragmentValue → FragmentValue → Type 0
Either R a b = R a b ⊎ R b a

-- the two packets cannot both be of one message, for one of six reasons
pub data Contradict (a b : FragmentValue) : Type 0 where
  other_piece : OtherPiece a b → Contradict a b
  other_count : OtherCount a b → Contradict a b
  past_stop : Either PastStop a b → Contradict a b
  outside_count : Either OutsideCount a b → Contradict a b
  other_length : OtherLength a b → Contradict a b
  longer_stop : Either LongerStop a b → Contradict a b

-- ---- the packets that were heard

-- a is one of the packets
abbrev pub In : FragmentValue → List FragmentValue → Type 0
In a [] = ⊥
In a (x ∷ xs) = (a ≡ x) ⊎ In a xs

-- some packet of these is so
abbrev pub SomeIn : List FragmentValue → (FragmentValue → Type 0) → Type 0
SomeIn ps P = (a : FragmentValue) × In a ps × P a

-- a packet of the number n was heard
abbrev pub Heard : List FragmentValue → ℕ → Type 0
Heard ps n = SomeIn ps (λ a. a.number ≡ n)

-- some packet that was heard contradicts q
abbrev pub Against : List FragmentValue → FragmentValue → Type 0
Against ps q = SomeIn ps (Contradict q)

-- no two of the packets contradict
abbrev pub Calm : List FragmentValue → Type 0
Calm ps = (a b : FragmentValue) → In a ps → In b ps → Contradict a b → ⊥

-- no two contradict, and a stop packet and every lower number were heard
abbrev pub Whole : List FragmentValue → Type 0
Whole ps = Calm ps × SomeIn ps (λ z. (z.stop ≡ true) × ((n : ℕ) → n < z.number → Heard ps n))

-- xs is the bodies of the numbers below k, joined in order
abbrev pub Joined : List FragmentValue → ℕ → List ℕ → Type 0
Joined ps zero xs = xs ≡ []
Joined ps (suc k) xs = (ys : List ℕ) × Joined ps k ys × SomeIn ps (λ a. (a.number ≡ k) × (xs ≡ ys ++ a.body))

-- m is the message: the bodies of all numbers up to a stop packet's, joined in order
abbrev pub Message : List FragmentValue → List ℕ → Type 0
Message ps m = SomeIn ps (λ z. (z.stop ≡ true) × Joined ps (suc z.number) m)

-- every body but a stop packet's has the length l
abbrev pub PlainLength : List FragmentValue → ℕ → Type 0
PlainLength ps l = (a : FragmentValue) → In a ps → a.stop ≡ false → length a.body ≡ l

-- the first k pieces, joined
unfoldable pub joined : (ℕ → List ℕ) → ℕ → List ℕ
joined piece zero = []
joined piece (suc k) = joined piece k ++ piece k

-- The packets are a whole message of k packets: it is the first k pieces joined, no other list of bytes is, and it has n bytes.
pub record Complete (ps : List FragmentValue) (piece : ℕ → List ℕ) (k n : ℕ) : Type 0 where
  pub whole : Whole ps
  pub message : Message ps (joined piece k)
  pub only : (m : List ℕ) → Message ps m → m ≡ joined piece k
  pub size : length (joined piece k) ≡ n
  pub stops : SomeIn ps (λ z. (z.stop ≡ true) × (z.number + 1 ≡ k))

-- of the numbers below j, just r were heard
unfoldable pub Counted : List FragmentValue → ℕ → ℕ → Type 0
Counted ps zero r = r ≡ 0
Counted ps (suc j) r = (Heard ps j × ((k : ℕ) × Counted ps j k × (r ≡ k + 1))) ⊎ ((Heard ps j → ⊥) × Counted ps j r)

-- every number below r was heard, and r was not: if all numbers were heard, r is max_packets
pub record LowestUnheard (ps : List FragmentValue) (r : ℕ) : Type 0 where
  pub most : r ≤ max_packets
  pub below : (n : ℕ) → n < r → Heard ps n
  pub at : Heard ps r → ⊥

-- ---- laws

-- what two packets say of each other does not hang on their order, and no packet contradicts itself
pub record SoundContradiction : Type 0 where
  pub flips : (a b : FragmentValue) → Contradict a b → Contradict b a
  pub never : (a : FragmentValue) → Ranged a → Contradict a a → ⊥
