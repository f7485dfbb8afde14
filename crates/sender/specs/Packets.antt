-- The packets of a message, and their bytes.
use Rattle.std.specs.Prelude.{◌≡◌, ℕ, ◌+◌, ◌-◌, ◌*◌, ◌/◌, ◌<◌, ◌≤◌, Bool, List, map, length, take, drop, Result, MatchResult, ◌==◌, slice_index_or}
use Rattle.std.specs.List.{range_with_len, flat_map}
use Rattle.wire.specs.declared.order.ByteOrder.{ByteOrder}
use Rattle.wire.specs.Limits.{max_packets}
use Rattle.wire.specs.declared.refusal.Refusal.{Refusal}
use Rattle.packet.specs.declared.Packet.{Packet}
use Rattle.packet.specs.Packets.{PacketValue, shown, canonical, Encodes}
use Rattle.packet.specs.Datagrams.{Reading}
use Rattle.sender.specs.Limits.{id_length}
use Rattle.sender.specs.Lengths.{LawfulLength}

-- how a message is sent: by how many bytes it is cut, with which id, in which byte order
pub record Plan : Type 0 where
  pub cut : ℕ
  pub id : List ℕ
  pub order : ByteOrder

abbrev pub plan_by : ℕ → List ℕ → ByteOrder → Plan
plan_by c i o = record { cut = c; id = i; order = o }

-- it can be sent so: the packets fit their datagrams
pub record LawfulPlan (p : Plan) : Type 0 where
  pub lawful_cut : LawfulLength p.cut
  pub id_size : length p.id ≡ id_length

-- how many packets n bytes make: n / cut, rounded up
abbrev pub packet_count : ℕ → ℕ → ℕ
packet_count cut n = (n + (cut - 1)) / cut

-- a packet by its stop flag, its number and its body; the count is not said
abbrev pub packet_with : Plan → Bool → ℕ → List ℕ → PacketValue
packet_with p last i b = record { order = p.order; stop = last; number = i; count = 0; id = p.id; body = b }

-- packet i of the message m: the cut from i * cut on, shorter at the end of the message; the last has the stop flag
unfoldable pub packet_at : Plan → List ℕ → ℕ → PacketValue
packet_at p m i = packet_with p (i + 1 == packet_count p.cut (length m)) i (take p.cut (drop (i * p.cut) m))

-- n packets of the message m, from packet i on
abbrev pub packets_from : Plan → List ℕ → ℕ → ℕ → List PacketValue
packets_from p m i n = map (packet_at p m) (range_with_len i n)

-- all packets of the message m
abbrev pub packets_of : Plan → List ℕ → List PacketValue
packets_of p m = packets_from p m 0 (packet_count p.cut (length m))

-- the bytes of packets, one after the other
unfoldable pub bytes_of : List PacketValue → List ℕ
bytes_of vs = flat_map canonical vs

-- what holds of the packet number i of n of the message m
pub record LawfulPacket (p : Plan) (m : List ℕ) (n i : ℕ) (v : PacketValue) : Type 0 where
  pub accepted : Encodes v (canonical v)
  -- whoever reads its bytes gets it
  pub reads_back : (r : Result Packet Refusal) → Reading (canonical v) r → MatchResult r (λ q. shown q ≡ v) (λ _. ⊥)
  pub body_is : v.body ≡ take p.cut (drop (i * p.cut) m)
  pub number_is : v.number ≡ i
  pub id_is : v.id ≡ p.id
  pub order_is : v.order ≡ p.order
  pub count_is : v.count ≡ 0
  pub stop_is : v.stop ≡ (i + 1 == n)

-- what holds of the packets vs of the message m
pub record LawfulPackets (p : Plan) (m : List ℕ) (vs : List PacketValue) : Type 0 where
  pub few : length vs ≤ max_packets
  pub each : (i : ℕ) (d : PacketValue) → i < length vs → LawfulPacket p m (length vs) i (slice_index_or vs i d)
  pub bodies_join : flat_map (λ v. v.body) vs ≡ m

-- the packets of any message that is not too long are such as a reader accepts, and carry it
abbrev pub PacketsLawful : Type 0
PacketsLawful = (p : Plan) (m : List ℕ) → LawfulPlan p → 0 < length m → length m ≤ max_packets * p.cut → LawfulPackets p m (packets_of p m)
