use Rattle.std.proofs.Common.{◌≡◌, ℕ, ◌<◌, List, length, arith, refl, rules}
use borrow.Author.Tests.{tests}
use Rattle.std.specs.Bool.{MatchBool}
use Rattle.std.specs.List.{AllWithin, HoldsAt, enumerate_from}
use Rattle.std.proofs.lemmas.Iterator.{cases_from_all}
use Rattle.block.specs.Dumps.{block_at}
use Rattle.blocks.specs.Parts.{part_in}
use Rattle.blocks.specs.Props.{sound_of}
use Rattle.blocks.proofs.Chunks.{parts, parts_road, is_cut}
use Rattle.blocks.proofs.BlockShelf.is_piece.Goals as goal

pub returns-then-length-bytes : goal.returns-then-length-bytes
returns-then-length-bytes c =
    let x = c.args.self.now in
    let at = block_at x.memory.now in
    let s = c.args.place.slot in
    let n = c.args.place.number in
    let Yes : ℕ × List ℕ → Type 0 = λ p. part_in at x.count s n p.0 ≡ p.1 in
    let No : ℕ × List ℕ → Type 0 = λ p. part_in at x.count s n p.0 ≡ p.1 → ⊥ in
    let xs = enumerate_from 0 (parts c.args.bytes.now) in
    let all : MatchBool c.all.result (AllWithin Yes xs 0 (length xs)) ((k : ℕ) × (k < length xs) × HoldsAt No xs k) =
    cases_from_all _ _ _ Yes No c.all.ensures.ran
    (parts_road c.args.bytes.now refl c.enumerate.ensures.source c.enumerate.ensures.count c.chunks.ensures.rest c.chunks.ensures.size)
    (λ x q k. search (rules, tests)) (λ x q k. search (rules, tests)) in
    is_cut at x.count (sound_of at x.count x.sound) s n c.args.bytes.now (omega (arith, c.length.ensures)) c.all.result all
