-- The numbers of the block's format.
use Rattle.std.specs.Prelude.{ℕ}

abbrev pub block_length : ℕ
block_length = 512

-- where the data of a used block begin
abbrev pub data_start : ℕ
data_start = 8

-- the most data in one block
abbrev pub data_length : ℕ
data_length = 500

-- where the check stands
abbrev pub check_start : ℕ
check_start = 510
