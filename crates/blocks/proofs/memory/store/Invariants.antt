use Rattle.std.proofs.Common.{◌≡◌, ℕ, ◌*◌, ◌≤◌, length, get_or}
use Rattle.block.specs.Dumps.{block_at}
use Rattle.blocks.specs.Steps.{StoredParts}
use Rattle.blocks.proofs.memory.store.Given as goal

abbrev pub invariant-loop-index : goal.invariant-loop-index
invariant-loop-index l = record {
  stored : StoredParts (block_at l.initial.memory) l.count l.place.slot l.place.number l.bytes (length l.yielded) (block_at l.memory);
  long : length l.memory ≡ length l.initial.memory;
  past : (k : ℕ) → l.count * 512 ≤ k → get_or l.memory k 0 ≡ get_or l.initial.memory k 0;
}
