-- How bytes are cut into parts.
use Rattle.std.proofs.Common.{◌≡◌, ℕ, ◌+◌, ◌-◌, ◌*◌, ◌/◌, ◌%◌, ◌<◌, ◌≤◌, min, List, [], ◌++◌, length, get_or, take, drop, sym, refl, ap, ◌∙◌, arith, get_or-drop, get_or-take}
use Rattle.std.proofs.lemmas.List.{ext_get_or, length-append, length-take, length-drop, take-append-drop, drop-drop, take_all, drop_all, get_or_append_left, get_or-append_right}
use Rattle.shelf.specs.Units.{cost}
use Rattle.blocks.specs.Parts.{part_of}

-- how many parts there are
pub cost_is : (n : ℕ) → cost 500 n ≡ (n + 499) / 500
unfolding cost
cost_is n = refl

pub part_begins : (n k : ℕ) → k < cost 500 n → k * 500 < n
part_begins n k l = let e = cost_is n in omega arith

pub parts_end : (n k : ℕ) → cost 500 n ≤ k → n ≤ k * 500
parts_end n k l = let e = cost_is n in omega arith

pub parts_three : (n k : ℕ) → n ≤ 1448 → k < cost 500 n → k < 3
parts_three n k h l = let e = cost_is n in omega arith

pub length_part : (bytes : List ℕ) (k : ℕ) → length (part_of bytes k) ≡ min 500 (length bytes - k * 500)
length_part bytes k = simp (length-take, length-drop)

pub part_none : (bytes : List ℕ) (k : ℕ) → length bytes ≤ k * 500 → part_of bytes k ≡ []
part_none bytes k l = ap (take 500) (drop_all (k * 500) bytes l)

pub part_octet : (bytes : List ℕ) (k i : ℕ) → i < 500 → get_or (part_of bytes k) i 0 ≡ get_or bytes (k * 500 + i) 0
part_octet bytes k i l = get_or-take 500 (drop (k * 500) bytes) i 0 l ∙ get_or-drop (k * 500) bytes i 0

-- three parts are all there is
pub parts_join : (bytes : List ℕ) → length bytes ≤ 1500 → part_of bytes 0 ++ (part_of bytes 1 ++ part_of bytes 2) ≡ bytes
parts_join bytes l =
    let last : take 500 (drop 1000 bytes) ≡ drop 1000 bytes = take_all 500 (drop 1000 bytes) (omega (arith, length-drop 1000 bytes)) in
    let two : take 500 (drop 500 bytes) ++ drop 1000 bytes ≡ drop 500 bytes =
    ap (λ z. take 500 (drop 500 bytes) ++ z) (sym (drop-drop 500 500 bytes)) ∙ take-append-drop 500 (drop 500 bytes) in
    ap (λ z. take 500 bytes ++ (take 500 (drop 500 bytes) ++ z)) last ∙ (ap (λ z. take 500 bytes ++ z) two ∙ take-append-drop 500 bytes)

-- bytes of one length with the same parts are the same
pub parts_same : (xs ys : List ℕ) → length xs ≡ length ys → ((k : ℕ) → k * 500 < length ys → part_of xs k ≡ part_of ys k) → xs ≡ ys
parts_same xs ys e h =
    ext_get_or 0 xs ys e (λ i l.
    let k = i / 500 in
    let r : i % 500 < 500 = omega arith in
    let at : k * 500 + i % 500 ≡ i = omega arith in
    ap (λ t. get_or xs t 0) (sym at)
    ∙ (sym (part_octet xs k (i % 500) r)
    ∙ (ap (λ t. get_or t (i % 500) 0) (h k (omega arith))
    ∙ (part_octet ys k (i % 500) r ∙ ap (λ t. get_or ys t 0) at))))

-- the parts of what is joined of three lists, where all but the last are full
abbrev pub Exact : ℕ → ℕ → ℕ → Type 0
Exact long k l = l ≡ min 500 (long - k * 500)

pub three_parts : (x y z : List ℕ) (long : ℕ) → long ≡ length x + (length y + length z)
    → Exact long 0 (length x) → Exact long 1 (length y) → Exact long 2 (length z)
    → (part_of (x ++ (y ++ z)) 0 ≡ x) × (part_of (x ++ (y ++ z)) 1 ≡ y) × (part_of (x ++ (y ++ z)) 2 ≡ z)
three_parts x y z long e ex ey ez =
    let all = x ++ (y ++ z) in
    let lyz = length-append y z in
    let size : length all ≡ long = length-append x (y ++ z) ∙ (ap (λ t. length x + t) lyz ∙ sym e) in (
      ext_get_or 0 (part_of all 0) x (length_part all 0 ∙ omega arith)
          (λ i l. let b : i < length x = omega (arith, length_part all 0) in
          part_octet all 0 i (omega arith) ∙ (let p : 0 + i ≡ i = omega arith in ap (λ t. get_or all t 0) p ∙ get_or_append_left x (y ++ z) 0 i b)),
      ext_get_or 0 (part_of all 1) y (length_part all 1 ∙ omega arith)
          (λ i l. let b : i < length y = omega (arith, length_part all 1) in
          let p : 500 + i - length x ≡ i = omega arith in
          part_octet all 1 i (omega arith)
          ∙ (get_or-append_right x (y ++ z) (length x) (500 + i) 0 refl (omega arith) ∙ (ap (λ t. get_or (y ++ z) t 0) p ∙ get_or_append_left y z 0 i b))),
      ext_get_or 0 (part_of all 2) z (length_part all 2 ∙ omega arith)
          (λ i l. let b : i < length z = omega (arith, length_part all 2) in
          let p : 1000 + i - length x - length y ≡ i = omega arith in
          part_octet all 2 i (omega arith)
          ∙ (get_or-append_right x (y ++ z) (length x) (1000 + i) 0 refl (omega arith)
          ∙ (get_or-append_right y z (length y) (1000 + i - length x) 0 refl (omega arith) ∙ ap (λ t. get_or z t 0) p))),
    )
