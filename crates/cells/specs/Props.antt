-- A sound memory is sound in one way only, so that it can be taken out of the truncation in which the shelf holds it.
use Rattle.std.proofs.Common.{ℕ, List}
use mathlib.Core.Logic.{∥∥₁_elim}
use denote.Struct.Props.{props}
use Rattle.shelf.specs.Memories.{Units}
use Rattle.cells.specs.Cells.{Noted, noted_prop, Sound, sound_prop}

noted_is : (x : List ℕ) → IsProp (Noted x)
noted_is x = noted_prop (hlevel props) (hlevel props) (hlevel props) (hlevel props)

sound_is : (cells : Units) (count : ℕ) → IsProp (Sound cells count)
sound_is cells count = sound_prop (hlevel props) (hlevel (props, noted_is)) (hlevel props)

pub sound_of : (cells : Units) (count : ℕ) → ∥ Sound cells count ∥₁ → Sound cells count
sound_of cells count h = ∥∥₁_elim h (sound_is cells count) (λ s. s)
