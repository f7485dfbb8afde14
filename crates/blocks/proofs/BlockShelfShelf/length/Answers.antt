use Rattle.std.proofs.Common.{sym, ap, ◌∙◌}
use Rattle.shelf.proofs.Listed.{listed_none, listed_last}
use Rattle.block.specs.Fields.{whole_in}
use Rattle.block.specs.Dumps.{block_at}
use Rattle.blocks.specs.Parts.{sits_part}
use Rattle.blocks.specs.Props.{sound_of}
use Rattle.blocks.specs.Sounds.{part_says, whole_at, none_first}
use Rattle.blocks.proofs.BlockShelfShelf.length.Goals as goal

pub returns-in-Some : goal.returns-in-Some
returns-in-Some c =
    let x = c.args.self.now in
    let at = block_at x.memory.now in
    let i = c.in-Some.i in
    let units = c.units-blocks.ensures in
    let s = c.args.place.slot in
    let n = c.args.place.number in
    let last = listed_last c.units-blocks.result.now at x.count units.size units.each (λ x. sits_part x s n 0) i c.in-Some.ensures in
    c.whole.ensures
    ∙ (ap whole_in (units.each i last.within)
    ∙ whole_at at x.count (sound_of at x.count x.sound) s n i last.within (part_says (at i) s n 0 last.here).0)

pub returns-in-None : goal.returns-in-None
returns-in-None c =
    let x = c.args.self.now in
    let at = block_at x.memory.now in
    let units = c.units-blocks.ensures in
    sym (none_first at x.count (sound_of at x.count x.sound) c.args.place.slot c.args.place.number
    (listed_none c.units-blocks.result.now at x.count units.size units.each (λ x. sits_part x c.args.place.slot c.args.place.number 0) c.in-None.ensures))
