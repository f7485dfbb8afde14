use Rattle.std.proofs.Common.{ℕ, ◌≤◌, Bool, List, sym, ap, ◌∙◌, subst}
use Rattle.wire.specs.Limits.{max_piece}
use Rattle.shelf.proofs.Picks.{pick_last}
use Rattle.shelf.proofs.Listed.{listed_none, listed_last}
use Rattle.cells.specs.Cells.{length_in, sits, content_of, cell_at}
use Rattle.cells.specs.Props.{sound_of}
use Rattle.cells.specs.Sounds.{sits_notes, none_piece}
use Rattle.cells.proofs.CellShelf.piece.Goals as goal

pub content-requires : goal.content-requires
content-requires c =
    let x = c.args.self.now in
    let at = cell_at x.memory.now in
    let i = c.in-Some.i in
    let cells = c.cells-cells.ensures in
    let slot = c.args.place.slot in
    let number = c.args.place.number in
    let last = listed_last c.cells-cells.result.now at x.count cells.size cells.each (λ x. sits x slot number) i c.in-Some.ensures in
    let noted = (sound_of at x.count x.sound).noted i last.within (sits_notes (at i) slot number last.here).0 in
    subst (λ (x : List ℕ). length_in x ≤ max_piece) (sym (cells.each i last.within)) noted.length_fits

pub returns-in-Some : goal.returns-in-Some
returns-in-Some c =
    let x = c.args.self.now in
    let at = cell_at x.memory.now in
    let i = c.in-Some.i in
    let cells = c.cells-cells.ensures in
    let hit : List ℕ → Bool = λ x. sits x c.args.place.slot c.args.place.number in
    let last = listed_last c.cells-cells.result.now at x.count cells.size cells.each hit i c.in-Some.ensures in
    c.content.ensures
    ∙ (ap content_of (cells.each i last.within)
    ∙ sym (pick_last (λ k. hit (at k)) (λ k. content_of (at k)) x.count i last.within last.here last.none_after))

pub returns-in-None : goal.returns-in-None
returns-in-None c =
    let x = c.args.self.now in
    let at = cell_at x.memory.now in
    let cells = c.cells-cells.ensures in
    sym (none_piece at x.count c.args.place.slot c.args.place.number
    (listed_none c.cells-cells.result.now at x.count cells.size cells.each (λ x. sits x c.args.place.slot c.args.place.number) c.in-None.ensures))
