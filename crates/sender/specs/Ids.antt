-- The ids of messages, and what issuing them gives, call by call and over whole runs.
use Rattle.std.specs.Prelude.{◌≡◌, ℕ, ◌+◌, ◌<◌, ◌≤◌, List, [], ◌∷◌, ◌++◌, length, slice_index_or}
use Rattle.wire.specs.declared.order.ByteOrder.TheVariants.{Big}
use Rattle.wire.specs.declared.refusal.Refusal.{Refusal}
use Rattle.wire.specs.Numbers.{digits}
use Rattle.sender.specs.declared.ids.Issuer.{Issuer}
use Rattle.sender.specs.Limits.{node_count, serial_count}
use Rattle.sender.specs.Refusals.{SenderRefusal}

-- the id of a node's message: the node, then the serial
unfoldable pub id_of : ℕ → ℕ → List ℕ
id_of n k = digits Big 8 n ++ digits Big 4 k

-- two ids are the same only for the same node and the same serial
abbrev pub IdsDiffer : Type 0
IdsDiffer = (n o j k : ℕ) → n < node_count → o < node_count → j < serial_count → k < serial_count
    → id_of n j ≡ id_of o k → (n ≡ o) × (j ≡ k)

-- an issuer: for which node, and how many ids it gave
pub record Issuing : Type 0 where
  pub node : ℕ
  pub given : ℕ

abbrev pub issuing : Issuer → Issuing
issuing i = record { node = i.node; given = i.next }

abbrev pub new_issuing : ℕ → Issuing
new_issuing n = record { node = n; given = 0 }

-- an id is given: that of the next serial
pub record Issued (s : Issuing) (new_id : List ℕ) (after : Issuing) : Type 0 where
  pub serial_left : s.given < serial_count
  pub id_is : new_id ≡ id_of s.node s.given
  pub node_same : after.node ≡ s.node
  pub one_more : after.given ≡ s.given + 1

-- no id is given: there is no serial left
pub record Unissued (s : Issuing) (e : Refusal) (after : Issuing) : Type 0 where
  pub none_left : serial_count ≤ s.given
  pub refusal_is : SenderRefusal 14 e
  pub same : after ≡ s

-- calls of one new issuer, one after the other: the ids that it gave, the first of them first, and the issuer after
pub data Issues (n : ℕ) : List (List ℕ) → Issuing → Type 0 where
  issue_none : Issues n [] (new_issuing n)
  issue_more : {ids : List (List ℕ)} {s t : Issuing} {i : List ℕ} → Issues n ids s → Issued s i t → Issues n (ids ++ i ∷ []) t
  issue_refused : {ids : List (List ℕ)} {s t : Issuing} {e : Refusal} → Issues n ids s → Unissued s e t → Issues n ids t

-- the ids that a new issuer gave: the id number k is that of the serial k, and no two are the same; s is the issuer after
pub record IdsInOrder (n : ℕ) (ids : List (List ℕ)) (s : Issuing) : Type 0 where
  pub given_are : s.given ≡ length ids
  pub few : length ids ≤ serial_count
  pub each : (k : ℕ) → k < length ids → slice_index_or ids k [] ≡ id_of n k
  pub once : (j k : ℕ) → j < length ids → k < length ids → slice_index_or ids j [] ≡ slice_index_or ids k [] → j ≡ k

abbrev pub IssuesInOrder : Type 0
IssuesInOrder = (n : ℕ) (ids : List (List ℕ)) (s : Issuing) → Issues n ids s → IdsInOrder n ids s
