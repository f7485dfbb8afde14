-- What a summary tells of the packets that it is of.
use Rattle.std.proofs.Common.{◌≡◌, ℕ, ◌-◌, ◌<◌, ◌≤◌, Bool, true, false, not, ◌&&◌, ◌||◌, eqb, ◌⊎◌, List, length, Some, None, Option, MatchOption, unwrap_or, nat_lt, Decides, sym, refl, ap, ◌∙◌, inl, inr, arith}
use mathlib.Core.Bool.{beq}
use Rattle.std.proofs.lemmas.Bool.{cases_eq, cases_lt, cases_Bool, true≢false}
use Rattle.std.specs.Cmp.{booleans_Decides}
use Rattle.std.proofs.lemmas.Bool.Decides.{Decides-or, Decides-and, Decides-not, Decides-like, Decides-at, Decides-eqb, Decides-ltb, not_from_Decides}
use Rattle.std.specs.Option.{ForSome, option_zip}
use Rattle.shelf.specs.Pieces.{HoldsJust}
use Rattle.collection.specs.Fragments.{FragmentValue, In, SomeIn, Heard, Against, OtherPiece, OtherCount, PastStop, OutsideCount, OtherLength, LongerStop, Either}
use Rattle.collection.specs.Fragments.Contradict.{other_piece, other_count, past_stop, outside_count, other_length, longer_stop}
use Rattle.collection.specs.declared.summary.Summary.{Summary}
use Rattle.collection.specs.Kept.{Open, Tells}

-- a place that holds just these bytes, where there are some
pub holds_same : (x : Bool) (held bytes : List ℕ) → 0 < length bytes → Decides x (HoldsJust held bytes) → Decides x (held ≡ bytes)
holds_same x held bytes some d = Decides-like x (λ h. h.same) (λ e. record { some_byte = some; same = e }) d

-- one of two kinds of packets was heard
pub either_in : (ps : List FragmentValue) (P Q : FragmentValue → Type 0) (x y : Bool) → Decides x (SomeIn ps P) → Decides y (SomeIn ps Q) → Decides (x || y) (SomeIn ps (λ a. P a ⊎ Q a))
either_in ps P Q x y d e = Decides-like (x || y)
    (λ s. elim s [ inl p ↦ (p.0, p.1, inl p.2) | inr q ↦ (q.0, q.1, inr q.2) ])
    (λ s. elim s.2 [ inl p ↦ inl (s.0, s.1, p) | inr q ↦ inr (s.0, s.1, q) ])
    (Decides-or x y d e)

-- two names of one kind of packets
pub alike_in : (ps : List FragmentValue) (P Q : FragmentValue → Type 0) (x : Bool) → ((a : FragmentValue) → P a → Q a) → ((a : FragmentValue) → Q a → P a) → Decides x (SomeIn ps P) → Decides x (SomeIn ps Q)
alike_in ps P Q x f g d = Decides-like x (λ s. (s.0, s.1, f s.0 s.2)) (λ s. (s.0, s.1, g s.0 s.2)) d

-- R holds of q and a packet heard, in one order or the other
pub either_told : (s : Summary) (R : FragmentValue → FragmentValue → Type 0) (q : FragmentValue) (x y : Bool) → Tells s x (R q) → Tells s y (λ a. R a q) → Tells s (x || y) (Either R q)
either_told s R q x y d e = λ ps piece o. either_in ps (R q) (λ a. R a q) x y (d ps piece o) (e ps piece o)

-- ---- a count against a packet

outside_forth : (q a : FragmentValue) (n : ℕ) → 0 < n → q.count ≡ n → ((n ≤ a.number) ⊎ ((a.stop ≡ true) × (a.number < n - 1))) ⊎ ((a.stop ≡ false) × (a.number ≡ n - 1)) → OutsideCount q a
outside_forth q a n some e (inl (inl h)) = (omega (arith, some, e), inl (omega (arith, e, h)))
outside_forth q a n some e (inl (inr h)) = (omega (arith, some, e), inr (λ x. omega (arith, e, x.0 h.0, h.1)))
outside_forth q a n some e (inr h) = (omega (arith, some, e), inr (λ x. true≢false (sym (x.1 (omega (arith, some, e, h.1))) ∙ h.0)))

outside_back : (q a : FragmentValue) (n : ℕ) → q.count ≡ n → OutsideCount q a → ((n ≤ a.number) ⊎ ((a.stop ≡ true) × (a.number < n - 1))) ⊎ ((a.stop ≡ false) × (a.number ≡ n - 1))
outside_back q a n e (some, inl l) = inl (inl (omega (arith, e, l)))
outside_back q a n e (some, inr ne) = elim (cases_lt a.number n) [
  | inr l ↦ inl (inl l)
  | inl l ↦ elim (cases_Bool a.stop) [
    | inl t ↦ elim (cases_lt a.number (n - 1)) [
      | inl m ↦ inl (inr (t, m))
      | inr m ↦ absurd (ne (λ _. omega (arith, some, e, l, m), λ _. t))
    ]
    | inr f ↦ elim (cases_eq a.number (n - 1)) [
      | inl m ↦ inr (f, m)
      | inr m ↦ absurd (ne (λ t. absurd (true≢false (sym t ∙ f)), λ u. absurd (m (omega (arith, e, u)))))
    ]
  ]
]

-- a packet heard is outside the count n that q says: a number too high, a stop packet too low, or no stop packet at the end
pub outside_told : (s : Summary) (q : FragmentValue) (n : ℕ) (x y z : Bool) → 0 < n → q.count ≡ n → Tells s x (λ a. n ≤ a.number)
    → Tells s y (λ a. (a.stop ≡ true) × (a.number < n - 1)) → Tells s z (λ a. (a.stop ≡ false) × (a.number ≡ n - 1)) → Tells s ((x || y) || z) (OutsideCount q)
outside_told s q n x y z some e high low on = λ ps piece o.
    let H : FragmentValue → Type 0 = λ a. n ≤ a.number in
    let L : FragmentValue → Type 0 = λ a. (a.stop ≡ true) × (a.number < n - 1) in
    let G : FragmentValue → Type 0 = λ a. (a.stop ≡ false) × (a.number ≡ n - 1) in
    alike_in ps (λ a. (H a ⊎ L a) ⊎ G a) (OutsideCount q) ((x || y) || z) (λ a h. outside_forth q a n some e h) (λ a h. outside_back q a n e h)
    (either_in ps (λ a. H a ⊎ L a) G (x || y) z (either_in ps H L x y (high ps piece o) (low ps piece o)) (on ps piece o))

-- ---- packets of which no two contradict, and their summary

module _ (ps : List FragmentValue) (s : Summary) (piece : ℕ → List ℕ) (o : Open ps s piece) where
  pub same_stop : (a b : FragmentValue) → In a ps → In b ps → a.number ≡ b.number → a.stop ≡ b.stop
  same_stop a b i j e =
      let d = booleans_Decides a.stop b.stop in
      elim (cases_Bool (beq a.stop b.stop)) [
        | inl t ↦ d.0 t
        | inr f ↦ absurd (o.calm a b i j (other_piece (e, λ x. not_from_Decides (beq a.stop b.stop) d f x.1)))
      ]

  -- a count that is heard is the one that the summary has
  pub said_count : (a : FragmentValue) (n : ℕ) → In a ps → 0 < a.count → s.count ≡ Some n → a.count ≡ n
  said_count a n i some e =
      let b = o.said n e in
      elim (cases_eq a.count b.0.count) [ inl f ↦ f ∙ b.2.1 | inr ne ↦ absurd (o.calm a b.0 i b.1 (other_count (some, b.2.0, ne))) ]

  pub stop_told : (n : ℕ) (r : Bool) → Decides r (SomeIn ps (λ a. (a.stop ≡ true) × (a.number ≡ n))) → (a : FragmentValue) → In a ps → a.number ≡ n → a.stop ≡ r
  stop_told n r d a i e = elim (cases_Bool r) [
    | inl t ↦ let b = d.0 t in same_stop a b.0 i b.1 (e ∙ sym b.2.1) ∙ b.2.0 ∙ sym t
    | inr f ↦ elim (cases_Bool a.stop) [ inl t ↦ absurd (true≢false (sym (d.1 (a, i, (t, e))) ∙ f)) | inr g ↦ g ∙ sym f ]
  ]

  pub goes_on : (n : ℕ) (r : Bool) → Decides r (SomeIn ps (λ a. (a.stop ≡ true) × (a.number ≡ n))) → Heard ps n → Decides (not r) (SomeIn ps (λ a. (a.stop ≡ false) × (a.number ≡ n)))
  goes_on n r d h = Decides-like (not r)
      (λ no_stop. elim (cases_Bool h.0.stop) [ inl t ↦ absurd (no_stop (h.0, h.1, (t, h.2))) | inr f ↦ (h.0, h.1, (f, h.2)) ])
      (λ b x. true≢false (sym x.2.0 ∙ same_stop x.0 b.0 x.1 b.1 (x.2.1 ∙ sym b.2.1) ∙ b.2.0))
      (Decides-not r d)

  pub other_told : (q : FragmentValue) (x r : Bool) → Decides x (piece q.number ≡ q.body) → Decides r (SomeIn ps (λ a. (a.stop ≡ true) × (a.number ≡ q.number))) → Heard ps q.number
      → Decides (not (x && beq q.stop r)) (SomeIn ps (OtherPiece q))
  other_told q x r d e h = Decides-like (not (x && beq q.stop r))
      (λ ne. (h.0, h.1, (sym h.2, λ y. ne (body h.0 h.1 h.2 ∙ sym y.0, y.1 ∙ stop_told q.number r e h.0 h.1 h.2))))
      (λ b y. b.2.1 (sym y.0 ∙ body b.0 b.1 (sym b.2.0), y.1 ∙ sym (stop_told q.number r e b.0 b.1 (sym b.2.0))))
      (Decides-not (x && beq q.stop r) (Decides-and x (beq q.stop r) d (booleans_Decides q.stop r)))
    where
      body : (a : FragmentValue) → In a ps → a.number ≡ q.number → piece q.number ≡ a.body
      body a i f = ap piece (sym f) ∙ o.kept a i

  -- a length that the summary has is that of each packet heard that is no stop packet
  pub plain_sized : (a : FragmentValue) (l : ℕ) → In a ps → a.stop ≡ false → s.length ≡ Some l → length a.body ≡ l
  plain_sized a l i f e =
      let b = o.long l e in
      elim (cases_eq (length a.body) (length b.0.body)) [ inl g ↦ g ∙ b.2.1 | inr ne ↦ absurd (o.calm a b.0 i b.1 (other_length (f, b.2.0, ne))) ]

-- the count c that q says against the one that the summary has, if there are both
pub other_count_told : (s : Summary) (q : FragmentValue) (c : Option ℕ) (r : Bool) → q.count ≡ unwrap_or c 0 → ForSome c (λ n. 0 < n)
    → MatchOption (option_zip s.count c) (r ≡ false) (λ x. r ≡ not (eqb x.0 x.1)) → Tells s r (OtherCount q)
other_count_told s q c r says some told ps piece o = go s.count c refl says some told
  where
    go : (m c : Option ℕ) → s.count ≡ m → q.count ≡ unwrap_or c 0 → ForSome c (λ n. 0 < n) → MatchOption (option_zip m c) (r ≡ false) (λ x. r ≡ not (eqb x.0 x.1)) → Decides r (SomeIn ps (OtherCount q))
    go None c e says some told = (λ t. absurd (true≢false (sym t ∙ told)), λ a. absurd (omega (arith, o.unsaid e a.0 a.1, a.2.1)))
    go (Some m) None e says some told = (λ t. absurd (true≢false (sym t ∙ told)), λ a. absurd (omega (arith, says, a.2.0)))
    go (Some m) (Some n) e says some told = Decides-like r
        (λ ne. let a = o.said m e in (a.0, a.1, (omega (arith, says, some n refl), a.2.0, λ h. ne (sym a.2.1 ∙ sym h ∙ says))))
        (λ a h. a.2.2 (says ∙ sym h ∙ sym (said_count ps s piece o a.0 m a.1 a.2.1 e)))
        (Decides-at r (not (eqb m n)) told (Decides-not (eqb m n) (Decides-eqb m n)))

-- a stop packet against the length that the summary has, if there is one
pub longer_told : (s : Summary) (q : FragmentValue) (r : Bool) → q.stop ≡ true → MatchOption s.length (r ≡ false) (λ l. r ≡ nat_lt l (length q.body)) → Tells s r (LongerStop q)
longer_told s q r stop told ps piece o = go s.length refl told
  where
    go : (m : Option ℕ) → s.length ≡ m → MatchOption m (r ≡ false) (λ l. r ≡ nat_lt l (length q.body)) → Decides r (SomeIn ps (LongerStop q))
    go None e told = (λ t. absurd (true≢false (sym t ∙ told)), λ a. absurd (true≢false (sym (o.short e a.0 a.1) ∙ a.2.1)))
    go (Some l) e told = Decides-like r
        (λ h. let a = o.long l e in (a.0, a.1, (stop, a.2.0, omega (arith, a.2.1, h))))
        (λ a. omega (arith, plain_sized ps s piece o a.0 l a.1 a.2.1 e, a.2.2))
        (Decides-at r (nat_lt l (length q.body)) told (Decides-ltb l (length q.body)))

-- the six ways to contradict, told one by one
pub all_told : (ps : List FragmentValue) (q : FragmentValue) (x1 x2 x3 x4 x5 x6 : Bool)
    → Decides x1 (SomeIn ps (OtherPiece q)) → Decides x2 (SomeIn ps (OtherCount q)) → Decides x3 (SomeIn ps (Either PastStop q))
    → Decides x4 (SomeIn ps (Either OutsideCount q)) → Decides x5 (SomeIn ps (OtherLength q)) → Decides x6 (SomeIn ps (Either LongerStop q))
    → Decides (((((x1 || x2) || x3) || x4) || x5) || x6) (Against ps q)
all_told ps q x1 x2 x3 x4 x5 x6 d1 d2 d3 d4 d5 d6 = Decides-like (((((x1 || x2) || x3) || x4) || x5) || x6) joined parted
    (Decides-or ((((x1 || x2) || x3) || x4) || x5) x6 (Decides-or (((x1 || x2) || x3) || x4) x5 (Decides-or ((x1 || x2) || x3) x4 (Decides-or (x1 || x2) x3 (Decides-or x1 x2 d1 d2) d3) d4) d5) d6)
  where
    joined : (((((SomeIn ps (OtherPiece q) ⊎ SomeIn ps (OtherCount q)) ⊎ SomeIn ps (Either PastStop q)) ⊎ SomeIn ps (Either OutsideCount q)) ⊎ SomeIn ps (OtherLength q)) ⊎ SomeIn ps (Either LongerStop q)) → Against ps q
    joined (inl (inl (inl (inl (inl (a, i, h)))))) = (a, i, other_piece h)
    joined (inl (inl (inl (inl (inr (a, i, h)))))) = (a, i, other_count h)
    joined (inl (inl (inl (inr (a, i, h))))) = (a, i, past_stop h)
    joined (inl (inl (inr (a, i, h)))) = (a, i, outside_count h)
    joined (inl (inr (a, i, h))) = (a, i, other_length h)
    joined (inr (a, i, h)) = (a, i, longer_stop h)

    parted : Against ps q → (((((SomeIn ps (OtherPiece q) ⊎ SomeIn ps (OtherCount q)) ⊎ SomeIn ps (Either PastStop q)) ⊎ SomeIn ps (Either OutsideCount q)) ⊎ SomeIn ps (OtherLength q)) ⊎ SomeIn ps (Either LongerStop q))
    parted (a, i, other_piece h) = inl (inl (inl (inl (inl (a, i, h)))))
    parted (a, i, other_count h) = inl (inl (inl (inl (inr (a, i, h)))))
    parted (a, i, past_stop h) = inl (inl (inl (inr (a, i, h))))
    parted (a, i, outside_count h) = inl (inl (inr (a, i, h)))
    parted (a, i, other_length h) = inl (inr (a, i, h))
    parted (a, i, longer_stop h) = inr (a, i, h)
