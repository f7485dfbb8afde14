-- What the fields of a sender promise: its plan is lawful, and how long its next packet is.
use Rattle.std.proofs.Common.{◌≡◌, ◌+◌, Bool, refl}
use Rattle.arrayvec.specs.ArrayVec.{array_vec_len}
use Rattle.packet.specs.Packets.{size_of}
use Rattle.wire.specs.declared.order.ByteOrder.{ByteOrder}
use Rattle.sender.specs.declared.ids.Ticket.{Ticket}
use Rattle.sender.specs.declared.length.BodyLength.{BodyLength}
use Rattle.sender.specs.declared.state.State.{State}
use Rattle.sender.specs.Limits.{front_length}
use Rattle.sender.specs.Packets.{LawfulPlan, plan_by}
use Rattle.sender.specs.States.{sending, tail_packet}
use Rattle.sender.proofs.Messages.{size_with}

pub lawful_plan : (l : BodyLength) (t : Ticket) (o : ByteOrder) → LawfulPlan (plan_by l.value t.id o)
lawful_plan l t o = record { lawful_cut = record { at_least = l.least; at_most = l.most; in_steps = l.steps }; id_size = t.id_size }

module _ (st : State) (last : Bool) where
  pub tail_size : size_of (tail_packet st last) ≡ front_length + array_vec_len st.tail
  tail_size = size_with (sending st).plan last st.sent (tail_packet st last) st.tail.items refl st.ticket.id_size
