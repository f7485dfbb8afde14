use Rattle.std.proofs.Common.{◌≡◌, ℕ, ◌*◌, cond, ◌&&◌, List, [], take, sym, ap, ◌∙◌, rules}
use Rattle.block.specs.Limits.{data_length}
use Rattle.shelf.specs.Pieces.{Pieces}
use Rattle.shelf.specs.Units.{units_held, takes, same_place}
use Rattle.block.specs.Dumps.{block_at, Passes}
use Rattle.blocks.specs.Parts.{piece_in}
use Rattle.blocks.specs.Props.{sound_of}
use Rattle.blocks.proofs.Inspections.{sound_passes}
use Rattle.blocks.proofs.takes_one.Goals as goal

same_piece : {w : List ℕ} {k : ℕ} (v : List ℕ) (l : ℕ) → w ≡ v → k ≡ l → (s n : ℕ) → piece_in (block_at w) k s n ≡ piece_in (block_at v) l s n
same_piece v l e f s n = cc

same_passes : {w : List ℕ} {k : ℕ} (v : List ℕ) (l : ℕ) → w ≡ v → k ≡ l → Passes (take (l * 512) v) (units_held 500 (piece_in (block_at v) l))
    → Passes (take (k * 512) w) (units_held 500 (piece_in (block_at w) k))
same_passes {w} {k} v l e f h = rw (e, f) h

pub returns : goal.returns
returns c =
    let made = c.new-shelf.ensures.made in
    let held : Pieces = piece_in (block_at c.new-shelf.result.memory.now) c.new-shelf.result.count in
    let none : held ≡ (λ _ _. []) = λ i s n. made.empty s n i in
    let after = c.put.new.self in
    record {
      long = search rules;
      rest_stays = search rules;
      answer_is = c.put.ensures.answer
          ∙ (ap (λ p. takes data_length c.new-shelf.result.count p c.args.place.slot c.args.place.number c.args.bytes.now) none
          ∙ ap (λ k. takes data_length k (λ _ _. []) c.args.place.slot c.args.place.number c.args.bytes.now) made.count_is);
      holds_it = λ s n.
          same_piece after.memory.now after.count (search rules) (sym (c.put.ensures.size ∙ made.count_is)) s n
          ∙ (c.put.ensures.after s n ∙ ap (cond (c.put.result && same_place c.args.place.slot c.args.place.number s n) c.args.bytes.now) (made.empty s n));
      passes = same_passes after.memory.now after.count (search rules) (sym (c.put.ensures.size ∙ made.count_is))
          (sound_passes after.memory.now after.count after.fits (sound_of (block_at after.memory.now) after.count after.sound));
    }
