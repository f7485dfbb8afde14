-- What is kept of the packets heard of one unique id, and what the calls say of it.
use Rattle.std.specs.Prelude.{◌≡◌, ℕ, ◌<◌, ◌↔◌, Bool, true, false, IsTrue, List, [], ◌∷◌, length, Some, Option, unwrap_or, ◌≢◌}
use Rattle.std.specs.Option.{ForSome, ForNone}
use Rattle.numbers.specs.Marks.{has}
use Rattle.collection.specs.Fragments.{FragmentValue, Ranged, In, SomeIn, Heard, Against, Calm, Counted, LowestUnheard}
use Rattle.collection.specs.declared.fragment.Fragment.{Fragment}
use Rattle.collection.specs.declared.summary.Last.{Last}
use Rattle.collection.specs.declared.summary.Summary.{Summary}
use Rattle.collection.specs.declared.summary.Relation.{Relation}
use Rattle.collection.specs.declared.summary.Relation.TheVariants.{New, Repeated, Contradicts}

-- The packets ps were heard, and no two of them contradict. The summary s is of these packets, and their bodies stand on a shelf:
-- piece n is what the shelf holds at number n, the empty list for nothing.
pub record Open (ps : List FragmentValue) (s : Summary) (piece : ℕ → List ℕ) : Type 0 where
  -- no two packets contradict
  pub calm : Calm ps
  -- each packet keeps the limits
  pub ranged : (a : FragmentValue) → In a ps → Ranged a
  -- the summary has the number of each packet
  pub told : (a : FragmentValue) → In a ps → has s.heard a.number ≡ 1
  -- and no other number
  pub heard : (n : ℕ) → has s.heard n ≡ 1 → Heard ps n
  -- the body of each packet stands at its number
  pub kept : (a : FragmentValue) → In a ps → piece a.number ≡ a.body
  -- nothing stands at a number that was not heard
  pub bare : (n : ℕ) → has s.heard n ≡ 0 → piece n ≡ []
  -- a stop packet that the summary has was heard, with that number and length
  pub ended : ForSome s.stop (λ z. SomeIn ps (λ a. (a.stop ≡ true) × (a.number ≡ z.number) × (length a.body ≡ z.length)))
  -- if the summary has none, no stop packet was heard
  pub endless : ForNone s.stop ((a : FragmentValue) → In a ps → a.stop ≡ false)
  -- a count that the summary has was said by a packet
  pub said : ForSome s.count (λ c. SomeIn ps (λ a. (0 < a.count) × (a.count ≡ c)))
  -- if the summary has none, no packet said a count
  pub unsaid : ForNone s.count ((a : FragmentValue) → In a ps → a.count ≡ 0)
  -- a length that the summary has is the length of a packet that is not a stop packet
  pub long : ForSome s.length (λ l. SomeIn ps (λ a. (a.stop ≡ false) × (length a.body ≡ l)))
  -- if the summary has none, only stop packets were heard
  pub short : ForNone s.length ((a : FragmentValue) → In a ps → a.stop ≡ true)

-- P holds of whatever packets were heard to make the summary s, where their bodies are these pieces
abbrev pub OfHeardAt : Summary → (ℕ → List ℕ) → (List FragmentValue → Type 0) → Type 0
OfHeardAt s piece P = (ps : List FragmentValue) → Open ps s piece → P ps

-- P holds of whatever packets were heard to make the summary s, and of their pieces
abbrev pub OfHeard : Summary → (List FragmentValue → (ℕ → List ℕ) → Type 0) → Type 0
OfHeard s P = (ps : List FragmentValue) (piece : ℕ → List ℕ) → Open ps s piece → P ps piece

-- how the packet q is related to the packets ps heard before it:
-- it contradicts none and its number is new, it contradicts none and its number was heard, or it contradicts one
abbrev pub Related : List FragmentValue → FragmentValue → Relation → Type 0
Related ps q New = (Against ps q → ⊥) × (Heard ps q.number → ⊥)
Related ps q Repeated = (Against ps q → ⊥) × Heard ps q.number
Related ps q Contradicts = Against ps q

-- before and after are what the shelf holds at each number: the body of q was put at its number, and nothing else changed
pub record PiecePut (q : FragmentValue) (before after : ℕ → List ℕ) : Type 0 where
  pub here : after q.number ≡ q.body
  pub there : (n : ℕ) → (n ≢ q.number) → after n ≡ before n

-- the value of a fragment whose body is borrowed: its count is 0 where the fragment says none
abbrev pub shown : Fragment → FragmentValue
shown p = record { number = p.number; count = unwrap_or p.count 0; stop = p.stop; body = p.body.now }

-- r says whether some packet heard is so, whatever packets were heard to make the summary s
abbrev pub Tells : Summary → Bool → (FragmentValue → Type 0) → Type 0
Tells s r P = OfHeard s (λ ps _. IsTrue r ↔ SomeIn ps P)

-- t is the summary s with one packet more, q, which contradicts none of those heard
pub record Taken (s t : Summary) (q : FragmentValue) : Type 0 where
  -- once the body of q was put on the shelf, t is of q and the packets before
  pub fresh : (ps : List FragmentValue) (before after : ℕ → List ℕ) → Open ps s before → (Against ps q → ⊥) → PiecePut q before after → Open (q ∷ ps) t after
  -- and where the number of q was heard before, with the shelf as it was
  pub again : (ps : List FragmentValue) (piece : ℕ → List ℕ) → Open ps s piece → (Against ps q → ⊥) → Heard ps q.number → Open (q ∷ ps) t piece

-- r is the stop packet of the summary s with q too: q if it is one, else that of s
pub record StopWith (s : Summary) (q : FragmentValue) (r : Option Last) : Type 0 where
  pub new : q.stop ≡ true → r ≡ Some (record { number = q.number; length = length q.body })
  pub old : q.stop ≡ false → r ≡ s.stop

-- r is the count of the summary s with q too: what q says if it says one, else that of s
pub record CountWith (s : Summary) (q : FragmentValue) (r : Option ℕ) : Type 0 where
  pub new : 0 < q.count → r ≡ Some q.count
  pub old : q.count ≡ 0 → r ≡ s.count

-- r is the length of the bodies but the stop packet's, of the summary s with q too: that of q if it is no stop packet, else that of s
pub record LengthWith (s : Summary) (q : FragmentValue) (r : Option ℕ) : Type 0 where
  pub new : q.stop ≡ false → r ≡ Some (length q.body)
  pub old : q.stop ≡ true → r ≡ s.length

-- ---- laws

-- only one answer fits, and the order of the packets heard does not matter
pub record AnswersPinned : Type 0 where
  -- a packet has one relation to those heard
  pub relation : (ps : List FragmentValue) (q : FragmentValue) (r t : Relation) → Related ps q r → Related ps q t → r ≡ t
  -- there is one count of the numbers heard below j
  pub count : (ps : List FragmentValue) (j r t : ℕ) → Counted ps j r → Counted ps j t → r ≡ t
  -- there is one lowest number not heard
  pub lowest : (ps : List FragmentValue) (r t : ℕ) → LowestUnheard ps r → LowestUnheard ps t → r ≡ t
  -- a summary of some packets is one of any list with just these, in any order and any of them repeated
  pub order : (ps qs : List FragmentValue) (s : Summary) (piece : ℕ → List ℕ) → ((a : FragmentValue) → In a ps → In a qs) → ((a : FragmentValue) → In a qs → In a ps) → Open ps s piece → Open qs s piece
