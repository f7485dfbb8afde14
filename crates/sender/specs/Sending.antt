-- What a sender holds that took a message so far, and what its calls do.
use Rattle.std.specs.Prelude.{◌≡◌, ℕ, ◌+◌, ◌-◌, ◌*◌, ◌/◌, ◌<◌, ◌≤◌, List, [], ◌++◌, length, drop}
use Rattle.wire.specs.declared.refusal.Refusal.{Refusal}
use Rattle.wire.specs.Limits.{max_packets}
use Rattle.packet.specs.Packets.{PacketValue, canonical, size_of}
use Rattle.sender.specs.Limits.{front_length}
use Rattle.sender.specs.Packets.{Plan, packet_at, packets_from, bytes_of}
use Rattle.sender.specs.Refusals.{SenderRefusal}

-- a sender: how it sends, how many packets it wrote, and the bytes that it took and has not written
pub record Sending : Type 0 where
  pub plan : Plan
  pub sent : ℕ
  pub unsent : List ℕ

abbrev pub new_sending : Plan → Sending
new_sending p = record { plan = p; sent = 0; unsent = [] }

-- how many packets of n bytes are not the last, whatever follows
abbrev pub sure : ℕ → ℕ → ℕ
sure cut n = (n - 1) / cut

-- the sender took the message m so far: it wrote the packets that are sure, and holds the rest
pub record Took (s : Sending) (m : List ℕ) : Type 0 where
  pub sent_is : s.sent ≡ sure s.plan.cut (length m)
  pub unsent_is : s.unsent ≡ drop (s.sent * s.plan.cut) m

-- how many packets the portion q makes sure, after the message m
abbrev pub newly : Plan → List ℕ → List ℕ → ℕ
newly p m q = sure p.cut (length (m ++ q)) - sure p.cut (length m)

-- the length of a packet that is sure
abbrev pub full_size : Plan → ℕ
full_size p = front_length + p.cut

-- after the message m, the portion q is taken: its n sure packets go to the start of a buffer that held `was` and holds `new`
pub record Grown (s : Sending) (m q was new : List ℕ) (n : ℕ) (after : Sending) : Type 0 where
  pub took : Took after (m ++ q)
  pub message_fits : length (m ++ q) ≤ max_packets * s.plan.cut
  pub number_is : n ≡ newly s.plan m q
  pub bytes_are : new ≡ bytes_of (packets_from s.plan (m ++ q) s.sent n) ++ drop (n * full_size s.plan) was

-- the portion q is taken, whatever message came before
pub record Added (s : Sending) (q was new : List ℕ) (n : ℕ) (after : Sending) : Type 0 where
  pub same_plan : after.plan ≡ s.plan
  pub buffer_fits : n * full_size s.plan ≤ length was
  pub grown : (m : List ℕ) → Took s m → Grown s m q was new n after

-- the message would be too long, or, after that, the buffer is too short
pub data AddFlaw (s : Sending) (m q was : List ℕ) (e : Refusal) : Type 0 where
  long_message : SenderRefusal 9 e → max_packets * s.plan.cut < length (m ++ q) → AddFlaw s m q was e
  short_buffer : SenderRefusal 10 e → length (m ++ q) ≤ max_packets * s.plan.cut
      → length was < newly s.plan m q * full_size s.plan → AddFlaw s m q was e

-- the portion q is refused, and nothing changes
pub record Unadded (s : Sending) (q was new : List ℕ) (e : Refusal) (after : Sending) : Type 0 where
  pub same_sender : after ≡ s
  pub same_buffer : new ≡ was
  pub cause : (m : List ℕ) → Took s m → AddFlaw s m q was e

-- the last packet of the message m
abbrev pub final_packet : Plan → List ℕ → PacketValue
final_packet p m = packet_at p m (sure p.cut (length m))

-- the last packet of the message m goes to the start of the buffer, in n bytes
pub record Final (s : Sending) (m was new : List ℕ) (n : ℕ) : Type 0 where
  pub some_message : 0 < length m
  pub size_is : n ≡ size_of (final_packet s.plan m)
  pub bytes_are : new ≡ canonical (final_packet s.plan m) ++ drop n was

-- the last packet is written, whatever the message was
pub record Ended (s : Sending) (was new : List ℕ) (n : ℕ) : Type 0 where
  pub buffer_fits : n ≤ length was
  pub final : (m : List ℕ) → Took s m → Final s m was new n

-- there is no message, or, after that, the buffer is too short
pub data EndFlaw (s : Sending) (m was : List ℕ) (e : Refusal) : Type 0 where
  no_message : SenderRefusal 11 e → m ≡ [] → EndFlaw s m was e
  short_end : SenderRefusal 10 e → 0 < length m → length was < size_of (final_packet s.plan m) → EndFlaw s m was e

-- the last packet is refused, and nothing changes
pub record Unended (s : Sending) (was new : List ℕ) (e : Refusal) : Type 0 where
  pub same_buffer : new ≡ was
  pub cause : (m : List ℕ) → Took s m → EndFlaw s m was e
