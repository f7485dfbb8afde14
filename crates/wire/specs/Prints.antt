-- What layers and refusals are in print.
use Rattle.std.specs.Prelude.{ℕ, List, ◌++◌, codes}
use Rattle.std.specs.Fmt.{decimal}
use Rattle.wire.specs.declared.refusal.Layer.{Layer}
use Rattle.wire.specs.declared.refusal.Layer.TheVariants.{Packet, Sender, Receiver, Block, Profile, Component}
use Rattle.wire.specs.declared.refusal.Refusal.{Refusal}
use Rattle.wire.specs.Refusals.{fault_number}

abbrev pub layer_name : Layer → List ℕ
layer_name Packet = codes "packet"
layer_name Sender = codes "sender"
layer_name Receiver = codes "receiver"
layer_name Block = codes "block"
layer_name Profile = codes "profile"
layer_name Component = codes "component"

-- the number of the fault, the place and the layer
abbrev pub refusal_text : Refusal → List ℕ
refusal_text e = codes "refused " ++ (decimal (fault_number e.fault) ++ (codes " at " ++ (decimal e.place ++ (codes " in " ++ layer_name e.layer))))
