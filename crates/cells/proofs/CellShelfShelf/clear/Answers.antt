use Rattle.std.proofs.Common.{arith}
use Rattle.shelf.proofs.Clearings.{front_size, cleared_front}
use Rattle.cells.specs.Limits.{cell_length, some_byte}
use Rattle.cells.specs.Cells.{in_slot, Freed, cell_at}
use Rattle.cells.specs.Props.{sound_of}
use Rattle.cells.proofs.Clearings.{clear_clears, clear_sound}
use Rattle.cells.proofs.CellShelfShelf.clear.Goals as goal

pub invariant_of-self : goal.invariant_of-self
invariant_of-self c =
    let x = c.args.self.now in
    let m = x.memory.now in
    let ys = c.free_slot.new.memory in
    let size = front_size cell_length x.count some_byte m ys x.fits c.free_slot.ensures.size in
    let cleared = cleared_front cell_length x.count some_byte m ys x.fits c.free_slot.ensures.size in_slot Freed c.args.slot c.free_slot.ensures.cleared in
    record { fits = omega (arith, x.fits); sound = ∣ clear_sound (cell_at m) c.args.slot x.count (cell_at _) cleared (sound_of (cell_at m) x.count x.sound) ∣₁ }

pub returns-clause-after : goal.returns-clause-after
returns-clause-after c =
    let x = c.args.self.now in
    let m = x.memory.now in
    let ys = c.free_slot.new.memory in
    let cleared = cleared_front cell_length x.count some_byte m ys x.fits c.free_slot.ensures.size in_slot Freed c.args.slot c.free_slot.ensures.cleared in
    clear_clears (cell_at m) c.args.slot x.count (cell_at _) cleared (sound_of (cell_at m) x.count x.sound)
