-- The number of each fault, and what a refusal says.
use Rattle.std.specs.Prelude.{◌≡◌, ℕ}
use Rattle.wire.specs.declared.refusal.Fault.{Fault}
use Rattle.wire.specs.declared.refusal.Layer.{Layer}
use Rattle.wire.specs.declared.refusal.Refusal.{Refusal}
use Rattle.wire.specs.declared.refusal.Fault.TheVariants.{DatagramLength, Magic, Version, Flags, IdLength, BodyLength, Numbering, PortionLength, MessageLength, BufferLength, EmptyMessage, UnlawfulBlock, SerialsSpent, SlotsTaken, ShelfFull, Contradiction, Spoiled, Fetched, NoSlot, Gathering, PastEnd, Text, Address, Port, Encapsulation, Excess}

abbrev pub fault_number : Fault → ℕ
fault_number DatagramLength = 1
fault_number Magic = 2
fault_number Version = 3
fault_number Flags = 4
fault_number IdLength = 5
fault_number BodyLength = 6
fault_number Numbering = 7
fault_number PortionLength = 8
fault_number MessageLength = 9
fault_number BufferLength = 10
fault_number EmptyMessage = 11
fault_number UnlawfulBlock = 13
fault_number SerialsSpent = 14
fault_number SlotsTaken = 21
fault_number ShelfFull = 22
fault_number Contradiction = 23
fault_number Spoiled = 24
fault_number Fetched = 25
fault_number NoSlot = 26
fault_number Gathering = 27
fault_number PastEnd = 30
fault_number Text = 31
fault_number Address = 32
fault_number Port = 33
fault_number Encapsulation = 34
fault_number Excess = 35

-- the layer refuses, by the fault of this number, at this place
pub record RefusedBy (layer : Layer) (number place : ℕ) (e : Refusal) : Type 0 where
  pub number_is : fault_number e.fault ≡ number
  pub place_is : e.place ≡ place
  pub by_layer : e.layer ≡ layer
