-- What writing a packet does to the buffer.
use Rattle.std.specs.Prelude.{◌≡◌, ℕ, ◌<◌, ◌≤◌, ◌⊎◌, List, ◌++◌, length, take, drop, Result, MatchResult}
use Rattle.wire.specs.declared.refusal.Refusal.{Refusal}
use Rattle.wire.specs.declared.refusal.Layer.TheVariants as layer
use Rattle.wire.specs.Refusals.{fault_number}
use Rattle.packet.specs.declared.Packet.{Packet}
use Rattle.packet.specs.Packets.{PacketValue, shown, size_of, canonical, InRange}
use Rattle.packet.specs.Datagrams.{Refused, Reading}

-- v can be written, in n bytes
pub record Writable (v : PacketValue) (n : ℕ) : Type 0 where
  pub in_range : InRange v
  pub size_is : n ≡ size_of v

-- v is written in n bytes at the start of a buffer that held `was` and holds `new`
pub record Written (v : PacketValue) (was new : List ℕ) (n : ℕ) : Type 0 where
  pub in_range : InRange v
  pub size_is : n ≡ size_of v
  pub fits : n ≤ length was
  pub bytes_are : new ≡ canonical v ++ drop n was
  -- whoever reads the n bytes gets v
  pub reads_back : (r : Result Packet Refusal) → Reading (take n new) r → MatchResult r (λ p. shown p ≡ v) (λ _. ⊥)

-- v could be written, but the buffer is too short
pub record Short (v : PacketValue) (was : List ℕ) (e : Refusal) : Type 0 where
  pub in_range : InRange v
  pub too_short : length was < size_of v
  pub number_is : fault_number e.fault ≡ 10
  pub place_is : e.place ≡ 0
  pub by_layer : e.layer ≡ layer.Packet

-- nothing is written: v is refused as its bytes would be, or the buffer is too short for them
pub record Unwritten (v : PacketValue) (was new : List ℕ) (e : Refusal) : Type 0 where
  pub same : new ≡ was
  pub cause : Refused (canonical v) e ⊎ Short v was e
