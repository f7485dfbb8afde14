-- A packet: its value, when that is in range, and its bytes.
use Rattle.std.specs.Prelude.{◌≡◌, ℕ, ◌+◌, ◌-◌, ◌*◌, ◌/◌, ◌<◌, ◌≤◌, Bool, cond, List, ◌∷◌, ◌++◌, length, replicate, ◌==◌}
use Rattle.wire.specs.declared.order.ByteOrder.{ByteOrder}
use Rattle.wire.specs.declared.order.ByteOrder.TheVariants.{Big, Little}
use Rattle.wire.specs.Limits.{max_packets}
use Rattle.wire.specs.Numbers.{digits}
use Rattle.packet.specs.declared.Packet.{Packet}
use Rattle.packet.specs.Limits.{magic_bytes, version_byte, header_length, max_datagram, max_id}

-- what a packet says
pub record PacketValue : Type 0 where
  pub order : ByteOrder
  pub stop : Bool
  pub number : ℕ
  -- how many packets the message has, or 0 where that is not said
  pub count : ℕ
  pub id : List ℕ
  pub body : List ℕ

abbrev pub shown : Packet → PacketValue
shown p = record { order = p.order; stop = p.stop; number = p.number; count = p.count; id = p.id.now; body = p.body.now }

-- bit 0 for little-endian, bit 1 for stop
abbrev pub flags_of : ByteOrder → Bool → ℕ
flags_of Big stop = cond stop 2 0
flags_of Little stop = cond stop 3 1

-- where the body begins after an id of n bytes: past the header and the id, at a multiple of 8
abbrev pub body_start : ℕ → ℕ
body_start n = (header_length + n + 7) / 8 * 8

-- how much padding stands between an id of n bytes and the body
abbrev pub padding_length : ℕ → ℕ
padding_length n = body_start n - (header_length + n)

-- the length of the datagram
abbrev pub size_of : PacketValue → ℕ
size_of v = body_start (length v.id) + length v.body

abbrev pub header_of : PacketValue → List ℕ
header_of v =
    magic_bytes ++ (version_byte ∷ flags_of v.order v.stop ∷
    (digits v.order 2 (length v.body)
    ++ (digits v.order 4 v.number
    ++ (digits v.order 4 v.count
    ++ digits v.order 4 (length v.id)))))

-- the datagram of v with this padding
abbrev pub datagram_of : PacketValue → List ℕ → List ℕ
datagram_of v padding = header_of v ++ (v.id ++ (padding ++ v.body))

-- the padding as it is written
abbrev pub zeros_of : PacketValue → List ℕ
zeros_of v = replicate (padding_length (length v.id)) 0

-- the datagram of v as it is written
abbrev pub canonical : PacketValue → List ℕ
canonical v = datagram_of v (zeros_of v)

-- number, count and stop flag go together
pub record Numbered (n count : ℕ) (stop : Bool) : Type 0 where
  pub number_fits : n < max_packets
  pub count_fits : count ≤ max_packets
  pub below_count : 0 < count → n < count
  pub stop_last : 0 < count → stop ≡ (n + 1 == count)

pub record InRange (v : PacketValue) : Type 0 where
  pub some_id : 0 < length v.id
  pub id_fits : length v.id ≤ max_id
  pub some_body : 0 < length v.body
  pub size_fits : size_of v ≤ max_datagram
  pub numbered : Numbered v.number v.count v.stop

-- the bytes are those of v, which is in range, with any padding
pub record Encodes (v : PacketValue) (xs : List ℕ) : Type 0 where
  pub in_range : InRange v
  pub padding : List ℕ
  pub padded : length padding ≡ padding_length (length v.id)
  pub bytes_are : xs ≡ datagram_of v padding

-- no bytes are those of two packet values
abbrev pub OnePacket : Type 0
OnePacket = (v w : PacketValue) (xs : List ℕ) → Encodes v xs → Encodes w xs → v ≡ w
