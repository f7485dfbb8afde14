-- What a refusal of the sender says.
use Rattle.std.specs.Prelude.{ℕ}
use Rattle.wire.specs.declared.refusal.Refusal.{Refusal}
use Rattle.wire.specs.declared.refusal.Layer.TheVariants.{Sender}
use Rattle.wire.specs.Refusals.{RefusedBy}

-- the sender refuses by this number; it points at no place
abbrev pub SenderRefusal : ℕ → Refusal → Type 0
SenderRefusal n e = RefusedBy Sender n 0 e
