use Rattle.std.proofs.Common.{◌≡◌, length, sym, ap, ◌∙◌, rules}
use Rattle.shelf.proofs.Listed.{listed_full, listed_free}
use Rattle.cells.specs.Cells.{is_used, cell_at, piece_in}
use Rattle.cells.specs.Props.{sound_of}
use Rattle.cells.proofs.Puttings.{no_room, fill_sound, fill_puts}
use Rattle.cells.proofs.CellShelfShelf.put.Goals as goal

pub returns-in_default-clause-answer : goal.returns-in_default-clause-answer
returns-in_default-clause-answer c =
    let x = c.args.self.now in
    let at = cell_at x.memory.now in
    let empty : length (piece_in at x.count c.args.place.slot c.args.place.number) ≡ 0 = let e = ap length c.piece.ensures in search rules in
    no_room at x.count (sound_of at x.count x.sound) c.args.place.slot c.args.place.number c.args.bytes.now (sym c.in_range.ensures ∙ c.if-not-in_range.false) empty
    (listed_full c.cells.result.now at x.count c.cells.ensures.size c.cells.ensures.each is_used c.in_default.ensures)

pub invariant_of-self : goal.invariant_of-self
invariant_of-self c =
    let x = c.args.self.now in
    let at = cell_at x.memory.now in
    let empty : length (piece_in at x.count c.args.place.slot c.args.place.number) ≡ 0 = let e = ap length c.piece.ensures in search rules in
    let free = listed_free c.cells.result.now at x.count c.cells.ensures.size c.cells.ensures.each is_used c.in-Some.index c.in-Some.ensures in
    let after = fill_sound x.memory.now c.fill.new.cell x.count c.in-Some.index c.args.place.slot c.args.place.number c.args.bytes.now x.fits
    (sound_of at x.count x.sound) (sym c.in_range.ensures ∙ c.if-not-in_range.false) empty free c.fill.ensures in
    record { fits = after.0; sound = ∣ after.1 ∣₁ }

pub returns : goal.returns
returns c =
    let x = c.args.self.now in
    let at = cell_at x.memory.now in
    let empty : length (piece_in at x.count c.args.place.slot c.args.place.number) ≡ 0 = let e = ap length c.piece.ensures in search rules in
    let free = listed_free c.cells.result.now at x.count c.cells.ensures.size c.cells.ensures.each is_used c.in-Some.index c.in-Some.ensures in
    let after = fill_puts x.memory.now c.fill.new.cell x.count c.in-Some.index c.args.place.slot c.args.place.number c.args.bytes.now x.fits
    (sound_of at x.count x.sound) (sym c.in_range.ensures ∙ c.if-not-in_range.false) empty free c.fill.ensures in
    record { answer = after.0; after = after.1; size = search rules; loan = search rules; rest = after.2 }
