-- A buffer that is written part by part.
use Rattle.std.proofs.Common.{◌≡◌, ℕ, ◌+◌, ◌-◌, List, ◌++◌, length, take, drop, sym, ap, ◌∙◌, arith}
use borrow.Rule.Slice.PartMut.{put_mid}
use Rattle.std.proofs.lemmas.List.{drop-drop, length-append, take_at, drop_at, append_assoc}

-- the buffer begins with `front`, and is as it was past that
abbrev pub Begun : List ℕ → List ℕ → List ℕ → Type 0
Begun front was cur = cur ≡ front ++ drop (length front) was

-- `ys`, which is `part`, is written behind what is there
pub begun_more : (front was : List ℕ) {part cur ys : List ℕ} {at end : ℕ} → at ≡ length front → end ≡ at + length part → ys ≡ part
    → Begun front was cur → Begun (front ++ part) was (put_mid at (end - at) cur ys)
begun_more front was {part} {cur} {ys} {at} {end} e f y b =
    let t : take at cur ≡ front = ap (take at) b ∙ take_at front (drop (length front) was) at (sym e) in
    let d : drop at cur ≡ drop (length front) was = ap (drop at) b ∙ drop_at front (drop (length front) was) at (sym e) in
    let n : end - at ≡ length part = omega arith in
    let r : drop (end - at) (drop at cur) ≡ drop (length (front ++ part)) was =
    ap (λ k. drop k (drop at cur)) n
    ∙ (ap (drop (length part)) d ∙ (drop-drop (length part) (length front) was ∙ ap (λ k. drop k was) (sym (length-append front part)))) in
    cc (t, r, y) ∙ sym (append_assoc front part (drop (length (front ++ part)) was))
