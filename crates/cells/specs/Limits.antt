-- The numbers of the cell shelf.
use Rattle.std.proofs.Common.{ℕ, ◌+◌, ◌<◌, arith}
use Rattle.wire.specs.Limits.{max_piece}

-- the length of a cell's own notes, before its piece
abbrev pub notes_length : ℕ
notes_length = 8

abbrev pub cell_length : ℕ
cell_length = notes_length + max_piece

-- the most cells that a shelf takes
abbrev pub max_cells : ℕ
max_cells = 512

pub some_byte : 0 < cell_length
some_byte = omega arith
