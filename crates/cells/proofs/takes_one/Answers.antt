use Rattle.std.proofs.Common.{◌≡◌, ℕ, cond, ◌&&◌, List, [], sym, ap, ◌∙◌, rules}
use Rattle.wire.specs.Limits.{max_piece}
use Rattle.shelf.specs.Pieces.{Pieces}
use Rattle.shelf.specs.Units.{takes, same_place}
use Rattle.cells.specs.Cells.{cell_at, piece_in}
use Rattle.cells.proofs.takes_one.Goals as goal

same_piece : {w : List ℕ} {k : ℕ} (v : List ℕ) (l : ℕ) → w ≡ v → k ≡ l → (s n : ℕ) → piece_in (cell_at w) k s n ≡ piece_in (cell_at v) l s n
same_piece v l e f s n = cc

pub returns : goal.returns
returns c =
    let made = c.new-shelf.ensures.made in
    let held : Pieces = piece_in (cell_at c.new-shelf.result.memory.now) c.new-shelf.result.count in
    let none : held ≡ (λ _ _. []) = λ i s n. made.empty s n i in
    let after = c.put.new.self in
    record {
      long = search rules;
      rest_stays = search rules;
      answer_is = c.put.ensures.answer
          ∙ (ap (λ p. takes max_piece c.new-shelf.result.count p c.args.place.slot c.args.place.number c.args.bytes.now) none
          ∙ ap (λ k. takes max_piece k (λ _ _. []) c.args.place.slot c.args.place.number c.args.bytes.now) made.count_is);
      holds_it = λ s n.
          same_piece after.memory.now after.count (search rules) (sym (c.put.ensures.size ∙ made.count_is)) s n
          ∙ (c.put.ensures.after s n ∙ ap (cond (c.put.result && same_place c.args.place.slot c.args.place.number s n) c.args.bytes.now) (made.empty s n));
    }
