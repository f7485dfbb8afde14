use Rattle.std.proofs.Common.{length, sym, ◌∙◌, arith}
use Rattle.shelf.proofs.Takings.{range_facts}
use Rattle.block.specs.Dumps.{block_at}
use Rattle.blocks.specs.Props.{sound_of}
use Rattle.blocks.specs.Sounds.{none_sits, room_is}
use Rattle.blocks.proofs.Storings.{store_puts, store_sound}
use Rattle.blocks.proofs.BlockShelfShelf.put.Goals as goal

pub store-requires : goal.store-requires
store-requires c =
    let x = c.args.self.now in
    let at = block_at x.memory.now in
    let sound = sound_of at x.count x.sound in
    let bytes = c.args.bytes.now in
    let range = range_facts c.args.place.slot c.args.place.number (length bytes) (sym c.in_range.ensures ∙ c.if-not-in_range.false) in
    record {
      fits = x.fits;
      sound = sound;
      absent = none_sits at x.count sound c.args.place.slot c.args.place.number (omega (arith, c.length.ensures));
      room = room_is at x.count sound (length bytes) range.2 (omega (arith, c.part_count.ensures, c.free.ensures));
      slot = range.0;
      number = range.1;
      short = range.3;
    }

pub invariant_of-self : goal.invariant_of-self
invariant_of-self c =
    let x = c.args.self.now in
    let at = block_at x.memory.now in
    let bytes = c.args.bytes.now in
    let range = range_facts c.args.place.slot c.args.place.number (length bytes) (sym c.in_range.ensures ∙ c.if-not-in_range.false) in
    record {
      fits = omega (arith, x.fits, c.store.ensures.long);
      sound = ∣ store_sound at (block_at c.store.new.memory) x.count c.args.place.slot c.args.place.number bytes c.store.ensures.stored (sound_of at x.count x.sound) range.3 ∣₁;
    }

pub returns-clause-after : goal.returns-clause-after
returns-clause-after c =
    let x = c.args.self.now in
    let at = block_at x.memory.now in
    let bytes = c.args.bytes.now in
    let range = range_facts c.args.place.slot c.args.place.number (length bytes) (sym c.in_range.ensures ∙ c.if-not-in_range.false) in
    store_puts at (block_at c.store.new.memory) x.count c.args.place.slot c.args.place.number bytes c.store.ensures.stored (sound_of at x.count x.sound) range.3
