use Rattle.std.proofs.Common.{sym, ◌∙◌}
use Rattle.shelf.proofs.Places.{unit_here, one_unit}
use Rattle.blocks.specs.Parts.{shown}
use Rattle.blocks.proofs.Fills.{filled_long}
use Rattle.blocks.proofs.Places.{block_unit}
use Rattle.blocks.proofs.memory.fill_at.Goals as goal

pub returns : goal.returns
returns c =
    let m = c.args.memory.now in
    let ys = c.fill.new.block in
    let long = filled_long (shown c.args.part) ys c.requires.range c.fill.ensures in
    record {
      filled = sym (block_unit _ c.args.at) ∙ (unit_here 512 m ys c.args.at c.requires.within long ∙ c.fill.ensures);
      one = one_unit 512 m ys c.args.at c.requires.within long;
    }
