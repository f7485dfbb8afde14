-- Cells that are freed.
use Rattle.std.proofs.Common.{◌≡◌, ℕ, ◌<◌, true, false, eqb, List, [], length, sym, ap, ◌∙◌, subst, inl, inr}
use Rattle.std.proofs.lemmas.Bool.{cases_Bool, both_ways}
use Rattle.shelf.specs.Units.{cost, Clears}
use Rattle.shelf.specs.Memories.{Units, Cleared}
use Rattle.shelf.proofs.Counts.{count_none}
use Rattle.shelf.proofs.Clearings.{free_sits, gone, pick_kept, count_gone, count_kept}
use Rattle.wire.specs.Limits.{max_piece}
use Rattle.cells.specs.Cells.{is_used, slot_in, number_in, in_slot, content_of, sits, Noted, Freed, piece_in, Sound}
use Rattle.cells.specs.Sounds.{none_piece}

unused : (x : List ℕ) → Freed x → is_used x ≡ false
unused x f = f.unused

-- cells that are all free hold nothing
module _ (d : Units) (count : ℕ) (free : (i : ℕ) → i < count → Freed (d i)) where
  none : (s n i : ℕ) → i < count → sits (d i) s n ≡ false
  none = free_sits is_used slot_in number_in Freed unused d count free

  pub free_pieces : (s n : ℕ) → piece_in d count s n ≡ []
  free_pieces s n = none_piece d count s n (none s n)

  pub free_sound : Sound d count
  unfolding cost
  free_sound = record {
    long = λ i l. (free i l).long;
    noted = λ i l u. absurd (both_ways (is_used (d i)) (free i l).unused u);
    counts = λ s n. count_none (λ i. sits (d i) s n) count (none s n) ∙ sym (ap (λ x. cost max_piece (length x)) (free_pieces s n));
  }

module _ (b : Units) (slot count : ℕ) (d : Units) (cleared : Cleared in_slot Freed b slot count d) (sound : Sound b count) where
  piece_kept : (s n : ℕ) → eqb slot s ≡ false → piece_in d count s n ≡ piece_in b count s n
  piece_kept s n e = pick_kept is_used slot_in number_in Freed unused b slot count d cleared s n (λ x. sits x s n) content_of (λ x t. t) e

  piece_gone : (s n : ℕ) → eqb slot s ≡ true → piece_in d count s n ≡ []
  piece_gone s n e = none_piece d count s n (gone is_used slot_in number_in Freed unused b slot count d cleared s n e)

  pub clear_clears : Clears (piece_in b count) slot (piece_in d count)
  clear_clears s n = elim (cases_Bool (eqb slot s)) [ inl t ↦ rw t (piece_gone s n t) | inr f ↦ rw f (piece_kept s n f) ]

  pub clear_sound : Sound d count
  unfolding cost
  clear_sound = record {
    long = λ i l. elim (cases_Bool (in_slot (b i) slot)) [
      | inl t ↦ (cleared.freed i l t).long
      | inr f ↦ ap length (cleared.others i l f) ∙ sound.long i l
    ];
    noted = λ i l u. elim (cases_Bool (in_slot (b i) slot)) [
      | inl t ↦ absurd (both_ways (is_used (d i)) (cleared.freed i l t).unused u)
      | inr f ↦ let same = cleared.others i l f in subst Noted (sym same) (sound.noted i l (ap is_used (sym same) ∙ u))
    ];
    counts = λ s n. elim (cases_Bool (eqb slot s)) [
      | inl t ↦
          count_gone is_used slot_in number_in Freed unused b slot count d cleared s n t
          ∙ sym (ap (λ x. cost max_piece (length x)) (piece_gone s n t))
      | inr f ↦
          count_kept is_used slot_in number_in Freed unused b slot count d cleared s n f
          ∙ (sound.counts s n ∙ ap (λ x. cost max_piece (length x)) (sym (piece_kept s n f)))
    ];
  }
