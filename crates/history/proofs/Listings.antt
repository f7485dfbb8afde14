-- Two lists of the stays after a history are as long and take as many units.
use Rattle.std.proofs.Common.{◌≡◌, ℕ, ◌+◌, ◌≤◌, List, [], ◌∷◌, length, sym, refl, ap, ◌∙◌, subst, inl, inr, arith}
use Rattle.std.proofs.lemmas.Bool.{true≢false}
use Rattle.collection.specs.Fragments.{FragmentValue, Calm}
use Rattle.history.specs.Calls.{History}
use Rattle.history.specs.Stays.{Terms, Stay, Stands, Stays, Placed, Among, Apart, Weighs, Broken, inside, units_of}
use Rattle.history.proofs.Standings.{stands_one, same_stay}

-- ---- a list without one of its stays

without : (xs : List Placed) (z : Placed) → Among z xs → List Placed
without [] z i = []
without (x ∷ xs) z (inl e) = xs
without (x ∷ xs) z (inr i) = x ∷ without xs z i

without_units : (xs : List Placed) (z : Placed) (i : Among z xs) → units_of xs ≡ z.units + units_of (without xs z i)
unfolding without
without_units [] z i = absurd i
without_units (x ∷ xs) z (inl e) = ap (λ (w : Placed). w.units + units_of xs) (sym e)
without_units (x ∷ xs) z (inr i) = omega (arith, without_units xs z i)

without_length : (xs : List Placed) (z : Placed) (i : Among z xs) → length xs ≡ 1 + length (without xs z i)
unfolding without
without_length [] z i = absurd i
without_length (x ∷ xs) z (inl e) = omega arith
without_length (x ∷ xs) z (inr i) = omega (arith, without_length xs z i)

without_has : (xs : List Placed) (z : Placed) (i : Among z xs) (y : Placed) → Among y xs → (y ≡ z → ⊥) → Among y (without xs z i)
unfolding without
without_has [] z i y j ne = absurd i
without_has (x ∷ xs) z (inl e) y (inl f) ne = absurd (ne (f ∙ sym e))
without_has (x ∷ xs) z (inl e) y (inr j) ne = j
without_has (x ∷ xs) z (inr i) y (inl f) ne = inl f
without_has (x ∷ xs) z (inr i) y (inr j) ne = inr (without_has xs z i y j ne)

-- different stays that are all among ys are no more than those, and take no more
at_most : (zs ys : List Placed) → Apart zs → ((z : Placed) → Among z zs → Among z ys) → (units_of zs ≤ units_of ys) × (length zs ≤ length ys)
at_most [] ys a f = (omega arith, omega arith)
at_most (z ∷ zs) ys a f =
    let i = f z (inl refl) in
    let r = at_most zs (without ys z i) a.1 (λ y j. without_has ys z i y (f y (inr j)) (λ e. a.0 y j (ap (λ (w : Placed). w.name) e))) in
    (omega (arith, r.0, without_units ys z i), omega (arith, r.1, without_length ys z i))

-- ---- two lists

pub calm_broken : (ps : List FragmentValue) → Calm ps → Broken ps → ⊥
calm_broken ps c b = c b.0 b.1 b.2 b.3 b.4

weighs_one : (unit : ℕ) (l : Stay) (v w : ℕ) → Weighs unit l v → Weighs unit l w → v ≡ w
weighs_one unit l v w (inl a) (inl b) = a.2 ∙ sym b.2
weighs_one unit l v w (inl a) (inr (inl f, e)) = absurd (true≢false (sym f ∙ a.0))
weighs_one unit l v w (inl a) (inr (inr k, e)) = absurd (calm_broken l.heard a.1 k)
weighs_one unit l v w (inr (inl f, e)) (inl b) = absurd (true≢false (sym f ∙ b.0))
weighs_one unit l v w (inr (inr k, e)) (inl b) = absurd (calm_broken l.heard b.1 k)
weighs_one unit l v w (inr a) (inr b) = a.1 ∙ sym b.1

same_placed : (y z : Placed) → y.name ≡ z.name → y.stay ≡ z.stay → y.units ≡ z.units → y ≡ z
same_placed y z a b c = made a b c
  where
    made : {n m : List ℕ} {l k : Stay} {u v : ℕ} → n ≡ m → l ≡ k → u ≡ v → ◌≡◌ {A = Placed} (record { name = n; stay = l; units = u }) (record { name = m; stay = k; units = v })
    made a b c = cc

-- a stay of one list is in the other
moves : (t : Terms) (h : History) (xs ys : List Placed) → Stays t h xs → Stays t h ys → (z : Placed) → Among z xs → Among z ys
moves t h xs ys a b z i =
    let x = a.each z i in
    let y = b.all z.name z.stay x.0 in
    let e = b.each y.0 y.1 in
    let s : y.0.stay ≡ z.stay = same_stay _ _ (stands_one t.patience h z.name (inside y.0.stay) (inside z.stay) (subst (λ (n : List ℕ). Stands t.patience h n (inside y.0.stay)) y.2 e.0) x.0) in
    let u : y.0.units ≡ z.units = weighs_one t.unit z.stay _ _ (subst (λ (l : Stay). Weighs t.unit l y.0.units) s e.1) x.1 in
    subst (λ (w : Placed). Among w ys) (same_placed y.0 z y.2 s u) y.1

pub stays_one : (t : Terms) (h : History) (xs ys : List Placed) → Stays t h xs → Stays t h ys → (units_of xs ≡ units_of ys) × (length xs ≡ length ys)
stays_one t h xs ys a b =
    let f = at_most xs ys a.apart (moves t h xs ys a b) in
    let g = at_most ys xs b.apart (moves t h ys xs b a) in
    (omega (arith, f.0, g.0), omega (arith, f.1, g.1))
