use Rattle.block.specs.Dumps.{block_at}
use Rattle.blocks.specs.Parts.{piece_in}
use Rattle.blocks.specs.Steps.{CopiedParts}
use Rattle.blocks.proofs.BlockShelfShelf.copy_out.Given as goal

abbrev pub invariant-loop-index : goal.invariant-loop-index
invariant-loop-index l =
    CopiedParts (piece_in (block_at l.self.memory.now) l.self.count l.place.slot l.place.number) l.initial.buffer l.index l.buffer
