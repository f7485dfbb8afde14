use Rattle.blocks.proofs.Inspections.{passes_inspected}
use Rattle.blocks.proofs.BlockShelf.inspect.Goals as goal

pub returns : goal.returns
returns c = passes_inspected c.blocks-2.result.now _ c.inspect.result c.blocks-2.ensures.passes c.inspect.ensures.answer
