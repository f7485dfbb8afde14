-- What is found among cells, and how they are written.
use Rattle.std.specs.Prelude.{◌≡◌, ℕ, ◌*◌, ◌/◌, ◌<◌, min, Bool, false, List, [], length, drop}
use Rattle.wire.specs.Limits.{max_piece}
use Rattle.shelf.specs.Units.{takes, Puts}
use Rattle.shelf.specs.Memories.{Units}
use Rattle.cells.specs.Limits.{cell_length, max_cells}
use Rattle.cells.specs.Cells.{sits, cell_at, piece_in}

-- none of the first cells is used for the place
abbrev pub NoneSits : Units → ℕ → ℕ → ℕ → Type 0
NoneSits cells count slot number = (i : ℕ) → i < count → sits (cells i) slot number ≡ false

-- how many cells a shelf takes of a memory
abbrev pub cells_taken : List ℕ → ℕ
cells_taken m = min (length m / cell_length) max_cells

-- an empty shelf of this many cells is made on a memory that held m and holds w
pub record Made (m : List ℕ) (count : ℕ) (w : List ℕ) : Type 0 where
  pub count_is : count ≡ cells_taken m
  pub empty : (s n : ℕ) → piece_in (cell_at w) count s n ≡ []
  pub rest_stays : drop (count * cell_length) w ≡ drop (count * cell_length) m

-- a memory that held m is lent to an empty shelf, which takes these bytes at this place or not, as r says; the memory
-- holds w then: the shelf's pieces, and after its cells what it had
pub record GivenBack (m : List ℕ) (slot number : ℕ) (bytes : List ℕ) (r : Bool) (w : List ℕ) : Type 0 where
  pub long : length w ≡ length m
  pub rest_stays : drop (cells_taken m * cell_length) w ≡ drop (cells_taken m * cell_length) m
  pub answer_is : r ≡ takes max_piece (cells_taken m) (λ _ _. []) slot number bytes
  pub holds_it : Puts r (λ _ _. []) slot number bytes (piece_in (cell_at w) (cells_taken m))
