-- What sending a whole message at once does.
use Rattle.std.specs.Prelude.{◌≡◌, ℕ, ◌*◌, ◌<◌, ◌≤◌, List, [], ◌++◌, length, drop}
use Rattle.wire.specs.declared.refusal.Refusal.{Refusal}
use Rattle.wire.specs.Limits.{max_packets}
use Rattle.sender.specs.Packets.{Plan, packets_of, bytes_of}
use Rattle.sender.specs.Refusals.{SenderRefusal}

-- all bytes that the message m makes
abbrev pub message_bytes : Plan → List ℕ → List ℕ
message_bytes p m = bytes_of (packets_of p m)

-- the packets of m go to the start of a buffer that held `was` and holds `new`, in n bytes
pub record MessageWritten (p : Plan) (m was new : List ℕ) (n : ℕ) : Type 0 where
  pub some_message : 0 < length m
  pub message_fits : length m ≤ max_packets * p.cut
  pub size_is : n ≡ length (message_bytes p m)
  pub buffer_fits : n ≤ length was
  pub bytes_are : new ≡ message_bytes p m ++ drop n was

-- the message is too long or has no byte, or, after that, the buffer is too short
pub data MessageFlaw (p : Plan) (m was : List ℕ) (e : Refusal) : Type 0 where
  too_long : SenderRefusal 9 e → max_packets * p.cut < length m → MessageFlaw p m was e
  no_byte : SenderRefusal 11 e → m ≡ [] → MessageFlaw p m was e
  too_short : SenderRefusal 10 e → 0 < length m → length m ≤ max_packets * p.cut → length was < length (message_bytes p m) → MessageFlaw p m was e

-- the message is refused, and the buffer stays as it was
pub record MessageUnwritten (p : Plan) (m was new : List ℕ) (e : Refusal) : Type 0 where
  pub same_buffer : new ≡ was
  pub cause : MessageFlaw p m was e
