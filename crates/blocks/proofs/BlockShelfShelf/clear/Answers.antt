use Rattle.std.proofs.Common.{arith}
use Rattle.shelf.proofs.Clearings.{front_size}
use Rattle.block.specs.Dumps.{block_at}
use Rattle.blocks.specs.Limits.{some_byte}
use Rattle.blocks.specs.Props.{sound_of}
use Rattle.blocks.proofs.Places.{cleared_blocks}
use Rattle.blocks.proofs.Clearings.{clear_clears, clear_sound}
use Rattle.blocks.proofs.BlockShelfShelf.clear.Goals as goal

pub invariant_of-self : goal.invariant_of-self
invariant_of-self c =
    let x = c.args.self.now in
    let m = x.memory.now in
    let ys = c.free_slot.new.memory in
    let size = front_size 512 x.count some_byte m ys x.fits c.free_slot.ensures.size in
    let cleared = cleared_blocks x.count m ys x.fits c.free_slot.ensures.size c.args.slot c.free_slot.ensures.cleared in
    record { fits = omega (arith, x.fits); sound = ∣ clear_sound (block_at m) c.args.slot x.count (block_at _) cleared (sound_of (block_at m) x.count x.sound) ∣₁ }

pub returns-clause-after : goal.returns-clause-after
returns-clause-after c =
    let x = c.args.self.now in
    let m = x.memory.now in
    let cleared = cleared_blocks x.count m c.free_slot.new.memory x.fits c.free_slot.ensures.size c.args.slot c.free_slot.ensures.cleared in
    clear_clears (block_at m) c.args.slot x.count (block_at _) cleared (sound_of (block_at m) x.count x.sound)
