-- Blocks that are freed.
use Rattle.std.proofs.Common.{◌≡◌, ℕ, ◌<◌, true, false, eqb, List, [], length, sym, ap, ◌∙◌, subst, inl, inr, arith}
use Rattle.std.proofs.lemmas.Bool.{cases_Bool, both_ways}
use Rattle.std.proofs.lemmas.Bool.Decides.{nat_tests}
use Rattle.shelf.specs.Units.{cost, Clears}
use Rattle.shelf.specs.Memories.{Units, Cleared}
use Rattle.shelf.proofs.Clearings.{free_sits, gone, pick_kept, count_gone, count_kept}
use Rattle.shelf.proofs.Counts.{count_none}
use Rattle.shelf.proofs.Helds.{cost_none}
use Rattle.block.specs.Blocks.{Lawful, free}
use Rattle.block.specs.Fields.{slot_in, number_in, whole_in}
use Rattle.block.specs.Dumps.{is_used}
use Rattle.blocks.specs.Parts.{in_slot, content_of, sits, sits_part, part_in, piece_in, Sound}
use Rattle.blocks.specs.Steps.{Freed, freed_unused}
use Rattle.blocks.specs.Sounds.{none_piece, part_says}

-- blocks that are all free hold nothing
module _ (d : Units) (count : ℕ) (all_free : (i : ℕ) → i < count → Freed (d i)) where
  none : (s n i : ℕ) → i < count → sits (d i) s n ≡ false
  none = free_sits is_used slot_in number_in Freed freed_unused d count all_free

  pub free_pieces : (s n : ℕ) → piece_in d count s n ≡ []
  free_pieces s n = none_piece d count s n (none s n)

  pub free_sound : Sound d count
  free_sound = record {
    lawful = λ i l. ∣ free (all_free i l) ∣₁;
    wholes = λ i l u. absurd (both_ways (is_used (d i)) (freed_unused (d i) (all_free i l)) u);
    counts = λ s n.
        count_none (λ i. sits (d i) s n) count (none s n)
        ∙ sym (ap (λ x. cost 500 (length x)) (free_pieces s n) ∙ cost_none 500 (omega arith));
  }

slot_own : (x : List ℕ) (slot : ℕ) → is_used x ≡ true → in_slot x slot ≡ false → eqb slot (slot_in x) ≡ false
slot_own x slot u h = grind (arith, nat_tests)

module _ (b : Units) (slot count : ℕ) (d : Units) (cleared : Cleared in_slot Freed b slot count d) (sound : Sound b count) where
  part_kept : (s n p : ℕ) → eqb slot s ≡ false → part_in d count s n p ≡ part_in b count s n p
  unfolding part_in
  part_kept s n p e =
      pick_kept is_used slot_in number_in Freed freed_unused b slot count d cleared s n
      (λ x. sits_part x s n p) content_of (λ x t. (part_says x s n p t).0) e

  piece_kept : (s n : ℕ) → eqb slot s ≡ false → piece_in d count s n ≡ piece_in b count s n
  unfolding piece_in
  piece_kept s n e = rw (part_kept s n 0 e, part_kept s n 1 e, part_kept s n 2 e)

  piece_gone : (s n : ℕ) → eqb slot s ≡ true → piece_in d count s n ≡ []
  piece_gone s n e = none_piece d count s n (gone is_used slot_in number_in Freed freed_unused b slot count d cleared s n e)

  pub clear_clears : Clears (piece_in b count) slot (piece_in d count)
  clear_clears s n = elim (cases_Bool (eqb slot s)) [ inl t ↦ rw t (piece_gone s n t) | inr f ↦ rw f (piece_kept s n f) ]

  pub clear_sound : Sound d count
  clear_sound = record {
    lawful = λ i l. elim (cases_Bool (in_slot (b i) slot)) [
      | inl t ↦ ∣ free (cleared.freed i l t) ∣₁
      | inr f ↦ subst (λ (x : List ℕ). ∥ Lawful x ∥₁) (sym (cleared.others i l f)) (sound.lawful i l)
    ];
    wholes = λ i l u. elim (cases_Bool (in_slot (b i) slot)) [
      | inl t ↦ absurd (both_ways (is_used (d i)) (freed_unused (d i) (cleared.freed i l t)) u)
      | inr f ↦
          let same = cleared.others i l f in
          let u' : is_used (b i) ≡ true = ap is_used (sym same) ∙ u in
          ap (λ x. length (piece_in d count (slot_in x) (number_in x))) same
          ∙ (ap length (piece_kept (slot_in (b i)) (number_in (b i)) (slot_own (b i) slot u' f)) ∙ (sound.wholes i l u' ∙ ap whole_in (sym same)))
    ];
    counts = λ s n. elim (cases_Bool (eqb slot s)) [
      | inl t ↦
          count_gone is_used slot_in number_in Freed freed_unused b slot count d cleared s n t
          ∙ sym (ap (λ x. cost 500 (length x)) (piece_gone s n t) ∙ cost_none 500 (omega arith))
      | inr f ↦
          count_kept is_used slot_in number_in Freed freed_unused b slot count d cleared s n f
          ∙ (sound.counts s n ∙ ap (λ x. cost 500 (length x)) (sym (piece_kept s n f)))
    ];
  }
