-- A piece that is copied part by part.
use borrow.Rule.Slice.PartMut.{put_mid}
use Rattle.std.proofs.Common.{◌≡◌, ℕ, ◌+◌, ◌-◌, ◌*◌, ◌<◌, ◌≤◌, min, List, ◌++◌, length, get_or, drop, sym, refl, ap, ◌∙◌, inl, inr, arith, get_or-drop}
use Rattle.std.proofs.lemmas.List.{ext_get_or, length-append, length-drop, get_or_append_left, get_or-append_right}
use Rattle.std.proofs.lemmas.Bool.{cases_lt}
use Rattle.blocks.specs.Parts.{part_of}
use Rattle.blocks.specs.Steps.{CopiedParts}
use Rattle.blocks.proofs.Places.{part_long, part_inside, part_below, part_above}
use Rattle.blocks.specs.Cuts.{length_part, part_octet}

-- one part more
module _ (p u w part : List ℕ) (k : ℕ) (so_far : CopiedParts p u k w) (begins : k * 500 < length p) (room : length p ≤ length u) (part_is : part ≡ part_of p k) where
  long : length part ≡ min 500 (length p - k * 500)
  long = ap length part_is ∙ length_part p k

  abbrev now_held : List ℕ
  now_held = put_mid (k * 500) (k * 500 + length part - k * 500) w part

  within : k * 500 + length part ≤ length w
  within = let l = long in let e = so_far.long in omega arith

  pub copy_more : CopiedParts p u (k + 1) now_held
  copy_more = record {
    long = part_long w part (k * 500) within ∙ so_far.long;
    front = λ i a b. elim (cases_lt i (k * 500)) [
      | inl low ↦ part_below w part (k * 500) within i low ∙ so_far.front i low b
      | inr high ↦
          let l = long in
          let at : k * 500 + (i - k * 500) ≡ i = omega arith in
          ap (λ t. get_or now_held t 0) (sym at)
          ∙ (part_inside w part (k * 500) within (i - k * 500) (omega arith)
          ∙ (ap (λ t. get_or t (i - k * 500) 0) part_is ∙ (part_octet p k (i - k * 500) (omega arith) ∙ ap (λ t. get_or p t 0) at)))
    ];
    behind = λ i a. let l = long in part_above w part (k * 500) within i (omega arith) ∙ so_far.behind i (omega arith);
  }

-- once all parts are copied
pub copy_all : (p u : List ℕ) (k : ℕ) (w : List ℕ) → CopiedParts p u k w → length p ≤ k * 500 → length p ≤ length u → w ≡ p ++ drop (length p) u
copy_all p u k w copied all room =
    let a = length-append p (drop (length p) u) in
    let d = length-drop (length p) u in
    ext_get_or 0 w (p ++ drop (length p) u) (omega (arith, copied.long))
    (λ i l. elim (cases_lt i (length p)) [
      | inl b ↦ copied.front i (omega arith) b ∙ sym (get_or_append_left p (drop (length p) u) 0 i b)
      | inr b ↦
          let e : length p + (i - length p) ≡ i = omega arith in
          copied.behind i (omega arith)
          ∙ sym (get_or-append_right p (drop (length p) u) (length p) i 0 refl b ∙ (get_or-drop (length p) u (i - length p) 0 ∙ ap (λ t. get_or u t 0) e))
    ])
