-- Units in a list, and the same units as they stand in a memory.
use Rattle.std.proofs.Common.{◌≡◌, ℕ, ◌<◌, Bool, List, length, sym, ap, ◌∙◌, arith}
use Rattle.shelf.specs.Sums.{count_of}
use Rattle.shelf.specs.Memories.{Units, nth_unit, NoneHit, LastHit, NoneFree, IsFree}
use Rattle.shelf.proofs.Counts.{count_same}

module _ (us : List (List ℕ)) (units : Units) (count : ℕ) (size : length us ≡ count) (each : (i : ℕ) → i < count → nth_unit us i ≡ units i)
    (test : List ℕ → Bool) where
  pub listed_none : NoneHit test (nth_unit us) (length us) → NoneHit test units count
  listed_none h i l = ap test (sym (each i l)) ∙ h i (omega arith)

  pub listed_last : (i : ℕ) → LastHit test (nth_unit us) (length us) i → LastHit test units count i
  listed_last i h = record {
    within = let w = h.within in omega arith;
    here = ap test (sym (each i (let w = h.within in omega arith))) ∙ h.here;
    none_after = λ k a l. ap test (sym (each k l)) ∙ h.none_after k a (omega arith);
  }

  pub listed_full : NoneFree test (nth_unit us) (length us) → NoneFree test units count
  listed_full h i l = ap test (sym (each i l)) ∙ h i (omega arith)

  pub listed_free : (i : ℕ) → IsFree test (nth_unit us) (length us) i → IsFree test units count i
  listed_free i h = record {
    within = let w = h.within in omega arith;
    unused = ap test (sym (each i (let w = h.within in omega arith))) ∙ h.unused;
  }

  pub listed_count : count_of (λ i. test (nth_unit us i)) (length us) ≡ count_of (λ i. test (units i)) count
  listed_count = ap (count_of (λ i. test (nth_unit us i))) size ∙ count_same (λ i. test (units i)) (λ i. test (nth_unit us i)) count (λ i l. ap test (each i l))
