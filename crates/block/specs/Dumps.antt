-- A dump: blocks one after the other, and what inspecting it may answer.
use Rattle.std.specs.Prelude.{◌≡◌, ℕ, zero, suc, ◌+◌, ◌*◌, ◌/◌, ◌<◌, Bool, cond, List, length, take, drop, Result, MatchResult, ◌==◌, slice_index}
use Rattle.wire.specs.declared.refusal.Refusal.{Refusal}
use Rattle.wire.specs.declared.refusal.Layer.TheVariants as layer
use Rattle.wire.specs.Refusals.{fault_number}
use Rattle.block.specs.Limits.{block_length}
use Rattle.block.specs.Blocks.{Lawful}

-- how many whole blocks a dump has; the bytes after the last one are of none
abbrev pub block_count : List ℕ → ℕ
block_count xs = length xs / block_length

unfoldable pub block_at : List ℕ → ℕ → List ℕ
block_at xs i = take block_length (drop (i * block_length) xs)

abbrev pub is_used : List ℕ → Bool
is_used block = slice_index block 0 == 1

-- how many of the first k blocks are used
unfoldable pub used_among : List ℕ → ℕ → ℕ
used_among xs zero = 0
used_among xs (suc k) = cond (is_used (block_at xs k)) 1 0 + used_among xs k

-- the first k blocks are lawful
abbrev pub LawfulUpTo : List ℕ → ℕ → Type 0
LawfulUpTo xs k = (i : ℕ) → i < k → Lawful (block_at xs i)

-- all blocks are lawful, and n of them are used
pub record Passes (xs : List ℕ) (n : ℕ) : Type 0 where
  pub all_lawful : LawfulUpTo xs (block_count xs)
  pub used_are : n ≡ used_among xs (block_count xs)

-- block k is the lowest unlawful one
pub record FailsAt (xs : List ℕ) (k : ℕ) : Type 0 where
  pub within : k < block_count xs
  pub lawful_before : LawfulUpTo xs k
  pub unlawful : Lawful (block_at xs k) → ⊥

-- the refusal names the lowest unlawful block
pub record Refused (xs : List ℕ) (e : Refusal) : Type 0 where
  pub number_is : fault_number e.fault ≡ 13
  pub fails : FailsAt xs e.place
  pub by_layer : e.layer ≡ layer.Block

abbrev pub Inspection : List ℕ → Result ℕ Refusal → Type 0
Inspection xs r = MatchResult r (λ n. Passes xs n) (λ e. Refused xs e)
