-- What is copied out of a place.
use Rattle.std.proofs.Common.{◌≡◌, ℕ, ◌≤◌, List, ◌++◌, length, drop}
use Rattle.std.proofs.lemmas.Bool.{le-leb}
use Rattle.shelf.specs.Pieces.{copied_length, copied_over}

pub copies_fit : (held buffer : List ℕ) → length held ≤ length buffer
    → (length held ≡ copied_length held buffer) × (held ++ drop (length held) buffer ≡ copied_over held buffer)
copies_fit held buffer l = let t = le-leb (length held) (length buffer) l in (rw t, rw t)
