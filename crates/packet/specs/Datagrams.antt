-- Which datagrams are refused, and what reading one may answer.
use Rattle.std.specs.Prelude.{◌≡◌, ℕ, ◌+◌, ◌/◌, ◌%◌, ◌<◌, ◌≤◌, Bool, cond, List, length, take, drop, Result, MatchResult, ◌==◌, ◌≢◌, slice_index}
use Rattle.wire.specs.declared.order.ByteOrder.{ByteOrder}
use Rattle.wire.specs.declared.order.ByteOrder.TheVariants.{Big, Little}
use Rattle.wire.specs.declared.refusal.Refusal.{Refusal}
use Rattle.wire.specs.declared.refusal.Layer.TheVariants as layer
use Rattle.wire.specs.Numbers.{number_of}
use Rattle.wire.specs.Refusals.{fault_number}
use Rattle.packet.specs.declared.Packet.{Packet}
use Rattle.packet.specs.Limits.{magic_bytes, version_byte, header_length, max_datagram, max_id}
use Rattle.packet.specs.Packets.{PacketValue, shown, body_start, Numbered, Encodes}

-- what the flags in byte 5 say
abbrev pub order_of : ℕ → ByteOrder
order_of flags = cond (flags % 2 == 0) Big Little

abbrev pub stop_of : ℕ → Bool
stop_of flags = flags / 2 % 2 == 1

module _ (xs : List ℕ) where
  abbrev pub order_in : ByteOrder
  order_in = order_of (slice_index xs 5)

  abbrev pub stop_in : Bool
  stop_in = stop_of (slice_index xs 5)

  -- the number in the n bytes from k on
  abbrev pub field_in : ℕ → ℕ → ℕ
  field_in k n = number_of order_in (take n (drop k xs))

  abbrev pub body_length_in : ℕ
  body_length_in = field_in 6 2

  abbrev pub number_in : ℕ
  number_in = field_in 8 4

  abbrev pub count_in : ℕ
  count_in = field_in 12 4

  abbrev pub id_length_in : ℕ
  id_length_in = field_in 16 4

-- the conditions under which a datagram is refused, each with its number and its place
pub data Flaw (xs : List ℕ) : ℕ → ℕ → Type 0 where
  too_short : length xs < header_length → Flaw xs 1 0
  too_long : max_datagram < length xs → Flaw xs 1 0
  other_magic : (take 4 xs ≢ magic_bytes) → Flaw xs 2 0
  other_version : (slice_index xs 4 ≢ version_byte) → Flaw xs 3 4
  upper_flags : 4 ≤ slice_index xs 5 → Flaw xs 4 5
  no_id : id_length_in xs ≡ 0 → Flaw xs 5 16
  long_id : max_id < id_length_in xs → Flaw xs 5 16
  id_past_end : length xs < body_start (id_length_in xs) → Flaw xs 5 16
  no_body : body_length_in xs ≡ 0 → Flaw xs 6 6
  other_body : (body_start (id_length_in xs) + body_length_in xs ≢ length xs) → Flaw xs 6 6
  misnumbered : (Numbered (number_in xs) (count_in xs) (stop_in xs) → ⊥) → Flaw xs 7 8

-- the refusal names a flaw of the datagram, and none has a lower number
pub record Refused (xs : List ℕ) (e : Refusal) : Type 0 where
  pub flaw : Flaw xs (fault_number e.fault) e.place
  pub lowest : (n place : ℕ) → Flaw xs n place → fault_number e.fault ≤ n
  pub by_layer : e.layer ≡ layer.Packet

-- what reading the bytes may answer: the packet whose bytes they are, or the refusal where they are those of none
abbrev pub Reading : List ℕ → Result Packet Refusal → Type 0
Reading xs r = MatchResult r
    (λ p. Encodes (shown p) xs)
    (λ e. Refused xs e × ((v : PacketValue) → Encodes v xs → ⊥))
