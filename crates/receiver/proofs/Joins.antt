-- Pieces joined at the start of a buffer.
use Rattle.std.proofs.Common.{◌≡◌, ℕ, suc, ◌+◌, ◌-◌, ◌≤◌, Bool, true, false, cond, leb, List, [], ◌++◌, length, take, drop, sym, refl, ap, ◌∙◌, inl, inr, append_assoc, append-nil, arith, length-append, length-drop, length-take, drop-drop}
use native.Mathlib.Decide.{le_ind}
use lib.Seq.{take-append_seam, drop-append_seam}
use borrow.Rule.Slice.PartMut.{put_mid, mid_of, post_of}
use Rattle.std.proofs.lemmas.List.{take_all, drop_all}
use Rattle.std.proofs.lemmas.Bool.{le-leb, cases_lt}
use Rattle.std.proofs.lemmas.Bool.Decides.{nat_tests}
use Rattle.shelf.specs.Pieces.{copied_length, copied_over}
use Rattle.collection.specs.Fragments.{joined}

pub joined_none : (p : ℕ → List ℕ) → joined p 0 ≡ []
unfolding joined
joined_none p = refl

pub joined_more : (p : ℕ → List ℕ) (n : ℕ) → joined p (suc n) ≡ joined p n ++ p n
unfolding joined
joined_more p n = refl

pub joined_le : (p : ℕ → List ℕ) (m n : ℕ) → m ≤ n → length (joined p m) ≤ length (joined p n)
joined_le p m n h = le_ind (λ (k : ℕ). length (joined p m) ≤ length (joined p k)) (omega arith) (λ k l e. omega (arith, ap length (joined_more p k), length-append (joined p k) (p k))) n h

-- what is copied never passes the end of the buffer
pub copied_fits : (piece buffer : List ℕ) → copied_length piece buffer ≤ length buffer
copied_fits piece buffer = elim (cases_lt (length buffer) (length piece)) [
  | inl l ↦ let e : leb (length piece) (length buffer) ≡ false = grind (arith, nat_tests) in grind (arith, nat_tests)
  | inr l ↦ let e : leb (length piece) (length buffer) ≡ true = le-leb _ _ l in grind (arith, nat_tests)
]

pub join_ends : (r : ℕ) (piece buffer : List ℕ) (at : ℕ) → at ≤ length buffer → r ≡ copied_length piece (mid_of at (length buffer - at) buffer) → at + r ≤ length buffer
join_ends r piece buffer at le is = omega (arith, is, copied_fits piece (mid_of at (length buffer - at) buffer), length-take (length buffer - at) (drop at buffer))

-- one piece more, where `done` is joined already
module _ (done piece was buffer part : List ℕ) (at r : ℕ) (at_is : at ≡ length done) (buffer_is : buffer ≡ done ++ drop at was) (long : length buffer ≡ length was) (room : at + length piece ≤ length was)
    (wrote : part ≡ copied_over piece (mid_of at (length buffer - at) buffer)) (told : r ≡ copied_length piece (mid_of at (length buffer - at) buffer)) where
  rest : drop at buffer ≡ drop at was
  rest = ap (λ (n : ℕ). drop n buffer) at_is ∙ ap (drop (length done)) buffer_is ∙ drop-append_seam done (drop at was)

  mid : mid_of at (length buffer - at) buffer ≡ drop at was
  mid = ap (take (length buffer - at)) rest ∙ take_all (length buffer - at) (drop at was) (omega (arith, length-drop at was))

  post : post_of at (length buffer - at) buffer ≡ []
  post = ap (drop (length buffer - at)) rest ∙ drop_all (length buffer - at) (drop at was) (omega (arith, length-drop at was))

  front : take at buffer ≡ done
  front = ap (λ (n : ℕ). take n buffer) at_is ∙ ap (take (length done)) buffer_is ∙ take-append_seam done (drop at was)

  fits : copied_over piece (drop at was) ≡ piece ++ drop (length piece) (drop at was)
  fits = ap (λ (b : Bool). cond b (piece ++ drop (length piece) (drop at was)) (drop at was)) (le-leb (length piece) (length (drop at was)) (omega (arith, length-drop at was)))

  pub join_count : r ≡ length piece
  join_count = told ∙ ap (λ (x : List ℕ). copied_length piece x) mid ∙ ap (λ (b : Bool). cond b (length piece) 0) (le-leb (length piece) (length (drop at was)) (omega (arith, length-drop at was)))

  pub join_more : put_mid at (length buffer - at) buffer part ≡ (done ++ piece) ++ drop (at + r) was
  join_more =
      let s : part ≡ piece ++ drop (at + r) was = wrote ∙ ap (λ (x : List ℕ). copied_over piece x) mid ∙ fits ∙ ap (λ (x : List ℕ). piece ++ x) (drop-drop (length piece) at was ∙ ap (λ (n : ℕ). drop (at + n) was) (sym join_count)) in
      ap (λ (x : List ℕ). x ++ (part ++ post_of at (length buffer - at) buffer)) front ∙ ap (λ (x : List ℕ). done ++ (part ++ x)) post
      ∙ ap (λ (x : List ℕ). done ++ x) (append-nil part) ∙ ap (λ (x : List ℕ). done ++ x) s ∙ sym (append_assoc done piece (drop (at + r) was))
