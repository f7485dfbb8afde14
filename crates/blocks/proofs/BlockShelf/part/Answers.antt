use Rattle.std.proofs.Common.{ℕ, ◌≤◌, Bool, List, sym, ap, ◌∙◌, subst, arith}
use Rattle.shelf.proofs.Picks.{pick_last}
use Rattle.shelf.proofs.Listed.{listed_none, listed_last}
use Rattle.block.specs.Fields.{length_in}
use Rattle.block.specs.Dumps.{block_at}
use Rattle.blocks.specs.Parts.{content_of, sits_part, part_in}
use Rattle.blocks.specs.Props.{sound_of}
use Rattle.blocks.specs.Sounds.{part_found, sits_says, part_says, none_part}
use Rattle.blocks.proofs.BlockShelf.part.Goals as goal

pub content-requires : goal.content-requires
content-requires c =
    let x = c.args.self.now in
    let at = block_at x.memory.now in
    let i = c.in-Some.i in
    let units = c.units-blocks.ensures in
    let s = c.args.place.slot in
    let n = c.args.place.number in
    let last = listed_last c.units-blocks.result.now at x.count units.size units.each (λ x. sits_part x s n c.args.index) i c.in-Some.ensures in
    let law = (sound_of at x.count x.sound).lawful i last.within in
    let found = part_found (at i) law (sits_says (at i) s n (part_says (at i) s n c.args.index last.here).0).0 in
    subst (λ (x : List ℕ). length_in x ≤ 500) (sym (units.each i last.within)) (omega (arith, found.length_is))

pub returns-in-Some : goal.returns-in-Some
unfolding part_in
returns-in-Some c =
    let x = c.args.self.now in
    let at = block_at x.memory.now in
    let i = c.in-Some.i in
    let units = c.units-blocks.ensures in
    let hit : List ℕ → Bool = λ x. sits_part x c.args.place.slot c.args.place.number c.args.index in
    let last = listed_last c.units-blocks.result.now at x.count units.size units.each hit i c.in-Some.ensures in
    c.content.ensures
    ∙ (ap content_of (units.each i last.within)
    ∙ sym (pick_last (λ k. hit (at k)) (λ k. content_of (at k)) x.count i last.within last.here last.none_after))

pub returns-in-None : goal.returns-in-None
returns-in-None c =
    let x = c.args.self.now in
    let at = block_at x.memory.now in
    let units = c.units-blocks.ensures in
    sym (none_part at x.count c.args.place.slot c.args.place.number c.args.index
    (listed_none c.units-blocks.result.now at x.count units.size units.each (λ x. sits_part x c.args.place.slot c.args.place.number c.args.index) c.in-None.ensures))
