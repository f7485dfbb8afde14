-- What is lawful or sound is so in one way only, so that it can be taken out of the truncation in which the shelf holds it.
use Rattle.std.proofs.Common.{ℕ, List}
use mathlib.Core.Logic.{∥∥₁_elim}
use denote.Struct.Props.{props}
use Rattle.wire.specs.Numbers.{Octets}
use Rattle.block.specs.Blocks.{Lawful}
use Rattle.block.specs.Fields.{PartFound, part_found_prop, FoundLawful, found_lawful_prop}
use Rattle.block.proofs.Layouts.{lawful_found, found_lawful, lawful_octets}
use Rattle.shelf.specs.Memories.{Units}
use Rattle.blocks.specs.Parts.{Sound, sound_prop}

part_found_is : (x : List ℕ) → IsProp (PartFound x)
part_found_is x = part_found_prop (hlevel props) (hlevel props) (hlevel props) (hlevel props) (hlevel props) (hlevel props)

found_is : (x : List ℕ) → IsProp (FoundLawful x)
found_is x = found_lawful_prop (hlevel props) (hlevel props) (hlevel props) (hlevel (props, part_found_is)) (hlevel props)

octets_is : (x : List ℕ) → IsProp (Octets x)
octets_is x = hlevel props

-- the fields of a lawful block
pub found_of : (x : List ℕ) → ∥ Lawful x ∥₁ → FoundLawful x
found_of x h = ∥∥₁_elim h (found_is x) (found_lawful x)

pub lawful_of : (x : List ℕ) → ∥ Lawful x ∥₁ → Lawful x
lawful_of x h = lawful_found x (∥∥₁_elim h (octets_is x) (lawful_octets x)) (found_of x h)

sound_is : (blocks : Units) (count : ℕ) → IsProp (Sound blocks count)
sound_is blocks count = sound_prop (hlevel props) (hlevel props) (hlevel props)

pub sound_of : (blocks : Units) (count : ℕ) → ∥ Sound blocks count ∥₁ → Sound blocks count
sound_of blocks count h = ∥∥₁_elim h (sound_is blocks count) (λ s. s)
