-- What the sender's fields stand for.
use Rattle.std.specs.Prelude.{Bool}
use Rattle.packet.specs.Packets.{PacketValue}
use Rattle.sender.specs.declared.state.State.{State}
use Rattle.sender.specs.Packets.{plan_by, packet_with}
use Rattle.sender.specs.Sending.{Sending}

abbrev pub sending : State → Sending
sending s = record { plan = plan_by s.length.value s.ticket.id s.order; sent = s.sent; unsent = s.tail.items }

-- the next packet, which carries all that is not written
abbrev pub tail_packet : State → Bool → PacketValue
tail_packet s last = packet_with (sending s).plan last s.sent s.tail.items
