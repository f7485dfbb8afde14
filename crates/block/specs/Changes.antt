-- One changed byte, and what it does to a block and to a dump.
use Rattle.std.specs.Prelude.{◌≡◌, ℕ, ◌*◌, ◌/◌, ◌<◌, List, length, ◌≢◌, slice_index, slice_index_or}
use Rattle.block.specs.Limits.{block_length}
use Rattle.block.specs.Blocks.{Lawful}
use Rattle.block.specs.Dumps.{block_count, FailsAt}

-- ys is xs with another value in byte i, and nothing else changed
pub record ChangedAt (i : ℕ) (xs ys : List ℕ) : Type 0 where
  pub long : length ys ≡ length xs
  pub here : slice_index_or ys i 0 ≡ slice_index xs i → ⊥
  pub others : (k : ℕ) → (k ≢ i) → slice_index ys k ≡ slice_index xs k

-- a lawful block with just one byte changed is unlawful
abbrev pub OneChange : Type 0
OneChange = (xs ys : List ℕ) (i : ℕ) → Lawful xs → ChangedAt i xs ys → Lawful ys → ⊥

-- with just one byte of its blocks changed, the dump fails at the block of that byte
abbrev pub FailsIfChanged : List ℕ → Type 0
FailsIfChanged xs = (ys : List ℕ) (i : ℕ) → ChangedAt i xs ys → i < block_count xs * block_length → FailsAt ys (i / block_length)
