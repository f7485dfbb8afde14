-- Units that are freed, one after the other.
use Rattle.std.proofs.Common.{◌≡◌, ℕ, ◌+◌, ◌*◌, ◌/◌, ◌<◌, ◌≤◌, Bool, true, false, eqb, List, ◌++◌, length, take, drop, sym, ap, ◌∙◌, subst, inl, inr, arith}
use Rattle.std.specs.Prelude.{◌==◌, ◌&&◌}
use Rattle.std.proofs.Math.Nat.{div-eq_of_eq-mul_left}
use Rattle.std.proofs.lemmas.List.{length-append, length-drop, length-take-le, drop_at}
use Rattle.std.proofs.lemmas.Bool.{cases_Bool, cases_eq, both_ways}
use Rattle.std.proofs.lemmas.Bool.Decides.{nat_tests}
use Rattle.shelf.specs.Sums.{count_of}
use Rattle.shelf.specs.Units.{same_place}
use Rattle.shelf.specs.Stores.{pick}
use Rattle.shelf.specs.Memories.{Units, unit_at, Cleared}
use Rattle.shelf.proofs.Counts.{count_none, count_same}
use Rattle.shelf.proofs.Picks.{pick_same}
use Rattle.shelf.proofs.Places.{front_unit, written_unit, behind_unit}

module _ (in_slot : List ℕ → ℕ → Bool) (Freed : List ℕ → Type 0) (b : Units) (slot k : ℕ) (d : Units) (so_far : Cleared in_slot Freed b slot k d) where
  -- unit k is freed
  pub clear_more : (e : Units) → in_slot (b k) slot ≡ true → Freed (e k) → ((i : ℕ) → (i ≡ k → ⊥) → e i ≡ d i) → Cleared in_slot Freed b slot (k + 1) e
  clear_more e t f same = record {
    freed = λ i l h. elim (cases_eq i k) [
      | inl z ↦ subst (λ (x : ℕ). Freed (e x)) (sym z) f
      | inr ne ↦ subst Freed (sym (same i ne)) (so_far.freed i (omega (arith, ne)) h)
    ];
    others = λ i l h. elim (cases_eq i k) [
      | inl z ↦ absurd (both_ways (in_slot (b k) slot) (ap (λ x. in_slot (b x) slot) (sym z) ∙ h) t)
      | inr ne ↦ same i ne ∙ so_far.others i (omega (arith, ne)) h
    ];
    later = λ i l. same i (λ z. omega arith) ∙ so_far.later i (omega arith);
  }

  -- unit k is left as it is
  pub clear_skip : in_slot (b k) slot ≡ false → Cleared in_slot Freed b slot (k + 1) d
  clear_skip f = record {
    freed = λ i l h. elim (cases_eq i k) [
      | inl z ↦ absurd (both_ways (in_slot (b k) slot) f (ap (λ x. in_slot (b x) slot) (sym z) ∙ h))
      | inr ne ↦ so_far.freed i (omega (arith, ne)) h
    ];
    others = λ i l h. elim (cases_eq i k) [
      | inl z ↦ so_far.later i (omega arith)
      | inr ne ↦ so_far.others i (omega (arith, ne)) h
    ];
    later = λ i l. so_far.later i (omega arith);
  }

-- a memory whose first units, this many, were written as a part of it
module _ (n count : ℕ) (some : 0 < n) (m ys : List ℕ) (fits : count * n ≤ length m) (size : length ys ≡ length (take (count * n) m)) where
  abbrev after : List ℕ
  after = ys ++ drop (count * n) m

  front_long : length ys ≡ count * n
  front_long = size ∙ length-take-le (count * n) m fits

  front_count : length (take (count * n) m) / n ≡ count
  front_count = div-eq_of_eq-mul_left some (length-take-le (count * n) m fits)

  pub front_size : length after ≡ length m
  front_size = simp (length-append, length-drop) (omega (arith, front_long))

  pub front_rest : drop (count * n) after ≡ drop (count * n) m
  front_rest = drop_at ys (drop (count * n) m) (count * n) front_long

  now : (i : ℕ) → i < count → unit_at n after i ≡ unit_at n ys i
  now i l = written_unit n count ys (drop (count * n) m) i front_long l

  pub freed_front : (Freed : List ℕ → Type 0) → ((i : ℕ) → i < length (take (count * n) m) / n → Freed (unit_at n ys i)) → (i : ℕ) → i < count → Freed (unit_at n after i)
  freed_front Freed h i l = subst Freed (sym (now i l)) (h i (omega (arith, front_count)))

  pub cleared_front : (in_slot : List ℕ → ℕ → Bool) (Freed : List ℕ → Type 0) (slot : ℕ)
      → Cleared in_slot Freed (unit_at n (take (count * n) m)) slot (length (take (count * n) m) / n) (unit_at n ys) → Cleared in_slot Freed (unit_at n m) slot count (unit_at n after)
  cleared_front in_slot Freed slot cleared =
      let was = front_unit n count m in
      let all = front_count in
      record {
        freed = λ i l h. subst Freed (sym (now i l)) (cleared.freed i (omega arith) (ap (λ x. in_slot x slot) (was i l) ∙ h));
        others = λ i l h. now i l ∙ (cleared.others i (omega arith) (ap (λ x. in_slot x slot) (was i l) ∙ h) ∙ was i l);
        later = λ i l. behind_unit n count m ys i front_long l;
      }

-- of units that note a slot and a number
module _ (used : List ℕ → Bool) (slot_in number_in : List ℕ → ℕ) where
  abbrev in_slot : List ℕ → ℕ → Bool
  in_slot x slot = used x && slot_in x == slot

  abbrev sits : List ℕ → ℕ → ℕ → Bool
  sits x s n = used x && same_place (slot_in x) (number_in x) s n

  slot_off : (x : List ℕ) (slot s n : ℕ) → in_slot x slot ≡ false → eqb slot s ≡ true → sits x s n ≡ false
  slot_off x slot s n h e = grind (arith, nat_tests)

  slot_other : (x : List ℕ) (slot s n : ℕ) → in_slot x slot ≡ true → eqb slot s ≡ false → sits x s n ≡ false
  slot_other x slot s n h e = grind (arith, nat_tests)

  unused_sits : (x : List ℕ) (s n : ℕ) → used x ≡ false → sits x s n ≡ false
  unused_sits x s n h = rw h

  module _ (Freed : List ℕ → Type 0) (unused : (x : List ℕ) → Freed x → used x ≡ false) where
    -- none of units that are all free is used for a place
    pub free_sits : (d : Units) (count : ℕ) → ((i : ℕ) → i < count → Freed (d i)) → (s n i : ℕ) → i < count → sits (d i) s n ≡ false
    free_sits d count free s n i l = unused_sits (d i) s n (unused (d i) (free i l))

    -- what has become of the units for a place, once those of a slot are freed
    module _ (b : Units) (slot count : ℕ) (d : Units) (cleared : Cleared in_slot Freed b slot count d) (s n : ℕ) where
      pub gone : eqb slot s ≡ true → (i : ℕ) → i < count → sits (d i) s n ≡ false
      gone e i l = elim (cases_Bool (in_slot (b i) slot)) [
        | inl t ↦ unused_sits (d i) s n (unused (d i) (cleared.freed i l t))
        | inr f ↦ ap (λ x. sits x s n) (cleared.others i l f) ∙ slot_off (b i) slot s n f e
      ]

      pub kept_sits : eqb slot s ≡ false → (i : ℕ) → i < count → sits (d i) s n ≡ sits (b i) s n
      kept_sits e i l = elim (cases_Bool (in_slot (b i) slot)) [
        | inl t ↦ unused_sits (d i) s n (unused (d i) (cleared.freed i l t)) ∙ sym (slot_other (b i) slot s n t e)
        | inr f ↦ ap (λ x. sits x s n) (cleared.others i l f)
      ]

      -- a unit of another slot is as it was
      kept_unit : eqb slot s ≡ false → (i : ℕ) → i < count → sits (b i) s n ≡ true → d i ≡ b i
      kept_unit e i l t = elim (cases_Bool (in_slot (b i) slot)) [
        | inl y ↦ absurd (both_ways (sits (b i) s n) (slot_other (b i) slot s n y e) t)
        | inr f ↦ cleared.others i l f
      ]

      -- and so is what such a unit has
      pub pick_kept : (hit : List ℕ → Bool) (content : List ℕ → List ℕ) → ((x : List ℕ) → hit x ≡ true → sits x s n ≡ true) → eqb slot s ≡ false
          → pick (λ i. hit (d i)) (λ i. content (d i)) count ≡ pick (λ i. hit (b i)) (λ i. content (b i)) count
      pick_kept hit content part e =
          pick_same (λ i. hit (b i)) (λ i. hit (d i)) (λ i. content (b i)) (λ i. content (d i)) count
          (λ i l. elim (cases_Bool (sits (b i) s n)) [
            | inl t ↦ ap hit (kept_unit e i l t)
            | inr f ↦ misses (d i) (kept_sits e i l ∙ f) ∙ sym (misses (b i) f)
          ])
          (λ i l t. ap content (kept_unit e i l (part (b i) t)))
        where
          misses : (x : List ℕ) → sits x s n ≡ false → hit x ≡ false
          misses x f = elim (cases_Bool (hit x)) [ inl t ↦ absurd (both_ways (sits x s n) f (part x t)) | inr off ↦ off ]

      pub count_gone : eqb slot s ≡ true → count_of (λ i. sits (d i) s n) count ≡ 0
      count_gone e = count_none (λ i. sits (d i) s n) count (gone e)

      pub count_kept : eqb slot s ≡ false → count_of (λ i. sits (d i) s n) count ≡ count_of (λ i. sits (b i) s n) count
      count_kept e = count_same (λ i. sits (b i) s n) (λ i. sits (d i) s n) count (kept_sits e)
