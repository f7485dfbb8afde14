-- The numbers of the block shelf.
use Rattle.std.proofs.Common.{ℕ, ◌<◌, arith}
use Rattle.block.specs.Limits.{block_length}

-- the most blocks that a shelf takes
abbrev pub max_blocks : ℕ
max_blocks = 1024

pub some_byte : 0 < block_length
some_byte = omega arith
