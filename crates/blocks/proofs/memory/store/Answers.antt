use Rattle.std.proofs.Common.{◌≡◌, ℕ, ◌*◌, List, length, Option, None, Some, IsSome, MatchOption, sym, refl, ◌∙◌, subst, arith}
use Rattle.std.proofs.lemmas.Iterator.Consumers.{YieldsList-turn, YieldsList-end}
use Rattle.std.proofs.lemmas.List.{length-append}
use Rattle.shelf.specs.Memories.{nth_unit, NoneFree, IsFree}
use Rattle.shelf.proofs.Places.{same_after}
use Rattle.shelf.proofs.Listed.{listed_full, listed_free}
use Rattle.block.specs.Blocks.{InRange}
use Rattle.block.specs.Dumps.{block_at, is_used}
use Rattle.blocks.specs.Parts.{part_of, part_from}
use Rattle.blocks.specs.Steps.{Filled, StoredParts}
use Rattle.blocks.proofs.Chunks.{parts_road, part_turn, items}
use Rattle.blocks.proofs.Places.{other_blocks}
use Rattle.blocks.proofs.Storings.{part_range, store_none, some_free, store_more}
use Rattle.blocks.proofs.memory.store.Goals as goal

pub loop-index-init : goal.loop-index-init
loop-index-init c = record {
  stored = store_none (block_at c.args.memory.now) c.args.count c.args.place.slot c.args.place.number c.args.bytes.now c.requires.sound c.requires.absent;
  long = refl;
  past = λ _ _. refl;
}

-- what was found among the units, where one must be there
found_some : (r : Option ℕ) (units : List (List ℕ)) → MatchOption r (NoneFree is_used (nth_unit units) (length units)) (λ i. IsFree is_used (nth_unit units) (length units) i)
    → (NoneFree is_used (nth_unit units) (length units) → ⊥) → IsSome r
found_some None units m never = absurd (never m)
found_some (Some i) units m never = refl

found_free : (r : Option ℕ) (units : List (List ℕ)) (i : ℕ) → r ≡ Some i
    → MatchOption r (NoneFree is_used (nth_unit units) (length units)) (λ i. IsFree is_used (nth_unit units) (length units) i) → IsFree is_used (nth_unit units) (length units) i
found_free r units i e m = subst (λ (o : Option ℕ). MatchOption o (NoneFree is_used (nth_unit units) (length units)) (λ i. IsFree is_used (nth_unit units) (length units) i)) e m

pub unwrap-at-requires : goal.unwrap-at-requires
unwrap-at-requires c =
    let bytes = c.args.bytes.now in
    let road = parts_road bytes c.into_iter-index-iterator.ensures.into_iter_gives c.enumerate-index-items.ensures.source c.enumerate-index-items.ensures.count
    c.chunks.ensures.rest c.chunks.ensures.size in
    let turn = part_turn bytes (length c.loop-index.yielded) (c.in-Some.index, c.in-Some.part.now)
    (YieldsList-turn road c.loop-index.yielded c.loop-index.index-iterator c.loop-index.yielded_by c.next.result c.next.new.self (c.in-Some.index, c.in-Some.part)
    c.in-Some.is c.next.ensures.steps) in
    found_some c.find_free.result c.units.result.now c.find_free.ensures (λ none. some_free (block_at c.args.memory.now) c.args.count c.args.place.slot c.args.place.number bytes (length c.loop-index.yielded)
    (block_at c.loop-index.memory) c.loop-index.invariant.stored (omega (arith, c.requires.room, turn.0))
    (listed_full c.units.result.now (block_at c.loop-index.memory) c.args.count c.units.ensures.size c.units.ensures.each is_used none))

pub fill_at-requires-clause-range : goal.fill_at-requires-clause-range
fill_at-requires-clause-range c =
    let bytes = c.args.bytes.now in
    let road = parts_road bytes c.into_iter-index-iterator.ensures.into_iter_gives c.enumerate-index-items.ensures.source c.enumerate-index-items.ensures.count
    c.chunks.ensures.rest c.chunks.ensures.size in
    let turn = part_turn bytes (length c.loop-index.yielded) (c.in-Some.index, c.in-Some.part.now)
    (YieldsList-turn road c.loop-index.yielded c.loop-index.index-iterator c.loop-index.yielded_by c.next.result c.next.new.self (c.in-Some.index, c.in-Some.part)
    c.in-Some.is c.next.ensures.steps) in
    subst (λ (p : ℕ × List ℕ). InRange (part_from c.args.place.slot c.args.place.number p.0 (length bytes) p.1)) (sym turn.1)
    (part_range c.args.place.slot c.args.place.number bytes (length c.loop-index.yielded) c.requires.slot c.requires.number c.requires.short
    (λ i. let t = c.type_inv.bytes i in omega arith) turn.0)

pub loop-index-preserved : goal.loop-index-preserved
loop-index-preserved c =
    let bytes = c.args.bytes.now in
    let road = parts_road bytes c.into_iter-index-iterator.ensures.into_iter_gives c.enumerate-index-items.ensures.source c.enumerate-index-items.ensures.count
    c.chunks.ensures.rest c.chunks.ensures.size in
    let turn = part_turn bytes (length c.loop-index.yielded) (c.in-Some.index, c.in-Some.part.now)
    (YieldsList-turn road c.loop-index.yielded c.loop-index.index-iterator c.loop-index.yielded_by c.next.result c.next.new.self (c.in-Some.index, c.in-Some.part)
    c.in-Some.is c.next.ensures.steps) in
    let m = c.args.memory.now in
    let v = c.loop-index.memory in
    let w = c.fill_at.new.memory in
    let slot = c.args.place.slot in
    let number = c.args.place.number in
    let at = c.unwrap-at.result in
    let k = length c.loop-index.yielded in
    let inv = c.loop-index.invariant in
    let is_free = listed_free c.units.result.now (block_at v) c.args.count c.units.ensures.size c.units.ensures.each is_used at (found_free c.find_free.result c.units.result.now at c.unwrap-at.ensures c.find_free.ensures) in
    let one = c.fill_at.ensures.one in
    let range = part_range slot number bytes k c.requires.slot c.requires.number c.requires.short (λ i. let t = c.type_inv.bytes i in omega arith) turn.0 in
    let filled : Filled (part_from slot number k (length bytes) (part_of bytes k)) (block_at w at) =
    subst (λ (p : ℕ × List ℕ). Filled (part_from slot number p.0 (length bytes) p.1) (block_at w at)) turn.1 c.fill_at.ensures.filled in
    record {
      stored = subst (λ (n : ℕ). StoredParts (block_at m) c.args.count slot number bytes n (block_at w)) (sym (length-append c.loop-index.yielded _))
          (store_more (block_at m) (block_at v) (block_at w) c.args.count slot number bytes k at inv.stored
          is_free.within is_free.unused range filled (other_blocks v at w one));
      long = one.size ∙ inv.long;
      past = λ i l. one.past i (let h = is_free.within in omega arith) ∙ inv.past i l;
    }

pub returns : goal.returns
returns c =
    let m = c.args.memory.now in
    let w = c.loop-index.memory in
    let bytes = c.args.bytes.now in
    let inv = c.loop-index.invariant in
    let road = parts_road bytes c.into_iter-index-iterator.ensures.into_iter_gives c.enumerate-index-items.ensures.source c.enumerate-index-items.ensures.count
    c.chunks.ensures.rest c.chunks.ensures.size in
    let all = (YieldsList-end road c.loop-index.yielded c.loop-index.index-iterator c.loop-index.yielded_by c.next.result c.next.new.self c.in-None.is c.next.ensures.steps).1 ∙ items bytes in
    record {
      stored = subst (λ (k : ℕ). StoredParts (block_at m) c.args.count c.args.place.slot c.args.place.number bytes k (block_at w)) all inv.stored;
      long = inv.long;
      rest = same_after m w (c.args.count * 512) inv.long inv.past;
    }
