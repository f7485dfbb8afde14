-- What is said of packets heard holds or does not.
use Rattle.std.proofs.Common.{◌≡◌, ℕ, zero, suc, ◌+◌, ◌<◌, ◌≤◌, ◌↔◌, Bool, true, false, ◌⊎◌, List, [], ◌∷◌, ◌++◌, length, refl, subst, inl, inr, arith}
use Rattle.std.proofs.lemmas.Bool.{true≢false, false≢true, cases_eq, cases_lt}
use Rattle.wire.specs.Limits.{max_packets}
use Rattle.collection.specs.Fragments.{FragmentValue, OtherPiece, OtherCount, PastStop, OutsideCount, OtherLength, LongerStop, Either, Contradict, In, SomeIn, Heard, Against, Calm, Whole, Joined, Message, Counted, LowestUnheard}
use Rattle.collection.specs.Fragments.Contradict.{other_piece, other_count, past_stop, outside_count, other_length, longer_stop}
use Rattle.history.specs.Stays.{Broken}
use Rattle.history.proofs.Standings.{same_or}

abbrev pub Decided : Type 0 → Type 0
Decided P = P ⊎ (P → ⊥)

-- ---- facts made of decided ones

pub both : {P Q : Type 0} → Decided P → Decided Q → Decided (P × Q)
both (inl p) (inl q) = inl (p, q)
both (inl p) (inr n) = inr (λ x. n x.1)
both (inr n) d = inr (λ x. n x.0)

three : {P Q R : Type 0} → Decided P → Decided Q → Decided R → Decided (P × Q × R)
three (inl p) (inl q) (inl r) = inl (p, q, r)
three (inl p) (inl q) (inr n) = inr (λ x. n x.2)
three (inl p) (inr n) d = inr (λ x. n x.1)
three (inr n) d e = inr (λ x. n x.0)

neither : {P Q : Type 0} → (P → ⊥) → (Q → ⊥) → P ⊎ Q → ⊥
neither m n (inl p) = m p
neither m n (inr q) = n q

one_of : {P Q : Type 0} → Decided P → Decided Q → Decided (P ⊎ Q)
one_of (inl p) d = inl (inl p)
one_of (inr m) (inl q) = inl (inr q)
one_of (inr m) (inr n) = inr (neither m n)

opposite : {P : Type 0} → Decided P → Decided (P → ⊥)
opposite (inl p) = inr (λ n. n p)
opposite (inr n) = inl n

pub follows : {P Q : Type 0} → Decided P → Decided Q → Decided (P → Q)
follows d (inl q) = inl (λ p. q)
follows (inl p) (inr n) = inr (λ f. n (f p))
follows (inr m) (inr n) = inl (λ p. absurd (m p))

exactly : {P Q : Type 0} → Decided P → Decided Q → Decided (P ↔ Q)
exactly d e = both (follows d e) (follows e d)

pub moved : {P Q : Type 0} → (P → Q) → (Q → P) → Decided P → Decided Q
moved f g (inl p) = inl (f p)
moved f g (inr n) = inr (λ q. n (g q))

-- ---- numbers and flags

pub less : (m n : ℕ) → Decided (m < n)
less m n = elim (cases_lt m n) [ inl l ↦ inl l | inr g ↦ inr (λ l. omega arith) ]

pub at_most : (m n : ℕ) → Decided (m ≤ n)
at_most m n = elim (cases_lt n m) [ inl g ↦ inr (λ l. omega arith) | inr l ↦ inl l ]

pub same_flag : (a b : Bool) → Decided (a ≡ b)
same_flag true true = inl refl
same_flag true false = inr true≢false
same_flag false true = inr false≢true
same_flag false false = inl refl

-- ---- two packets

module _ (a b : FragmentValue) where
  piece_or : Decided (OtherPiece a b)
  piece_or = both (cases_eq a.number b.number) (opposite (both (same_or a.body b.body) (same_flag a.stop b.stop)))

  count_or : Decided (OtherCount a b)
  count_or = three (less 0 a.count) (less 0 b.count) (opposite (cases_eq a.count b.count))

  stop_or : Decided (PastStop a b)
  stop_or = both (same_flag a.stop true) (less a.number b.number)

  outside_or : Decided (OutsideCount a b)
  outside_or = both (less 0 a.count) (one_of (at_most a.count b.number) (opposite (exactly (same_flag b.stop true) (cases_eq (b.number + 1) a.count))))

  length_or : Decided (OtherLength a b)
  length_or = three (same_flag a.stop false) (same_flag b.stop false) (opposite (cases_eq (length a.body) (length b.body)))

  longer_or : Decided (LongerStop a b)
  longer_or = three (same_flag a.stop true) (same_flag b.stop false) (less (length b.body) (length a.body))

-- one of the six reasons
Reasons : FragmentValue → FragmentValue → Type 0
Reasons a b = OtherPiece a b ⊎ (OtherCount a b ⊎ (Either PastStop a b ⊎ (Either OutsideCount a b ⊎ (OtherLength a b ⊎ Either LongerStop a b))))

reason_of : (a b : FragmentValue) → Contradict a b → Reasons a b
unfolding Reasons
reason_of a b (other_piece h) = inl h
reason_of a b (other_count h) = inr (inl h)
reason_of a b (past_stop h) = inr (inr (inl h))
reason_of a b (outside_count h) = inr (inr (inr (inl h)))
reason_of a b (other_length h) = inr (inr (inr (inr (inl h))))
reason_of a b (longer_stop h) = inr (inr (inr (inr (inr h))))

for_reason : (a b : FragmentValue) → Reasons a b → Contradict a b
unfolding Reasons
for_reason a b (inl h) = other_piece h
for_reason a b (inr (inl h)) = other_count h
for_reason a b (inr (inr (inl h))) = past_stop h
for_reason a b (inr (inr (inr (inl h)))) = outside_count h
for_reason a b (inr (inr (inr (inr (inl h))))) = other_length h
for_reason a b (inr (inr (inr (inr (inr h))))) = longer_stop h

reasons_or : (a b : FragmentValue) → Decided (Reasons a b)
unfolding Reasons
reasons_or a b =
    one_of (piece_or a b) (one_of (count_or a b) (one_of (one_of (stop_or a b) (stop_or b a))
    (one_of (one_of (outside_or a b) (outside_or b a)) (one_of (length_or a b) (one_of (longer_or a b) (longer_or b a))))))

contradict_or : (a b : FragmentValue) → Decided (Contradict a b)
contradict_or a b = moved (for_reason a b) (reason_of a b) (reasons_or a b)

-- ---- the packets that were heard

none_in : (x : FragmentValue) (ps : List FragmentValue) (P : FragmentValue → Type 0) → (P x → ⊥) → (SomeIn ps P → ⊥) → SomeIn (x ∷ ps) P → ⊥
none_in x ps P n m (a, inl e, p) = n (subst P e p)
none_in x ps P n m (a, inr i, p) = m (a, i, p)

some_or : (ps : List FragmentValue) (P : FragmentValue → Type 0) → ((a : FragmentValue) → Decided (P a)) → Decided (SomeIn ps P)
some_or [] P d = inr (λ s. s.1)
some_or (x ∷ ps) P d = elim (d x) [
  | inl p ↦ inl (x, inl refl, p)
  | inr n ↦ elim (some_or ps P d) [ inl s ↦ inl (s.0, inr s.1, s.2) | inr m ↦ inr (none_in x ps P n m) ]
]

pub against_or : (ps : List FragmentValue) (q : FragmentValue) → Decided (Against ps q)
against_or ps q = some_or ps (Contradict q) (contradict_or q)

pub heard_or : (ps : List FragmentValue) (n : ℕ) → Decided (Heard ps n)
heard_or ps n = some_or ps (λ a. a.number ≡ n) (λ a. cases_eq a.number n)

pub calm_or : (ps : List FragmentValue) → Calm ps ⊎ Broken ps
calm_or ps = elim (some_or ps (Against ps) (against_or ps)) [
  | inl s ↦ inr (s.0, s.2.0, s.1, s.2.1, s.2.2)
  | inr n ↦ inl (λ a b i j c. n (a, i, (b, j, c)))
]

below_more : (ps : List FragmentValue) (k : ℕ) → Heard ps k → ((n : ℕ) → n < k → Heard ps n) → (n : ℕ) → n < suc k → Heard ps n
below_more ps k h f n l = elim (cases_lt n k) [ inl m ↦ f n m | inr m ↦ let e : k ≡ n = omega arith in subst (Heard ps) e h ]

-- every lower number was heard
below_or : (ps : List FragmentValue) (k : ℕ) → Decided ((n : ℕ) → n < k → Heard ps n)
below_or ps zero = inl (λ n l. absurd (omega arith))
below_or ps (suc k) = elim (heard_or ps k) [
  | inl h ↦ moved (below_more ps k h) (λ f n l. f n (omega arith)) (below_or ps k)
  | inr m ↦ inr (λ f. m (f k (omega arith)))
]

pub whole_or : (ps : List FragmentValue) → Decided (Whole ps)
whole_or ps = elim (calm_or ps) [
  | inl c ↦ both (inl c) (some_or ps (λ z. (z.stop ≡ true) × ((n : ℕ) → n < z.number → Heard ps n)) (λ z. both (same_flag z.stop true) (below_or ps z.number)))
  | inr b ↦ inr (λ w. w.0 b.0 b.1 b.2 b.3 b.4)
]

-- ---- what is there to tell

join : (ps : List FragmentValue) (k : ℕ) → ((n : ℕ) → n < k → Heard ps n) → (m : List ℕ) × Joined ps k m
join ps zero h = ([], refl)
join ps (suc k) h =
    let r = join ps k (λ n l. h n (omega arith)) in
    let a = h k (omega arith) in
    (r.0 ++ a.0.body, (r.0, r.1, (a.0, a.1, (a.2, refl))))

pub some_message : (ps : List FragmentValue) → Whole ps → (m : List ℕ) × Message ps m
some_message ps (c, (z, i, (t, h))) =
    let j = join ps (suc z.number) (below_more ps z.number (z, i, refl) h) in
    (j.0, (z, i, (t, j.1)))

pub some_count : (ps : List FragmentValue) (j : ℕ) → (n : ℕ) × Counted ps j n
unfolding Counted
some_count ps zero = (0, refl)
some_count ps (suc j) =
    let r = some_count ps j in
    elim (heard_or ps j) [ inl h ↦ (r.0 + 1, inl (h, (r.0, r.1, refl))) | inr n ↦ (r.0, inr (n, r.1)) ]

-- the lowest number below j that was not heard
Missing : List FragmentValue → ℕ → Type 0
Missing ps j = (r : ℕ) × (r < j) × ((n : ℕ) → n < r → Heard ps n) × (Heard ps r → ⊥)

missing_or : (ps : List FragmentValue) (j : ℕ) → ((n : ℕ) → n < j → Heard ps n) ⊎ Missing ps j
unfolding Missing
missing_or ps zero = inl (λ n l. absurd (omega arith))
missing_or ps (suc j) = elim (missing_or ps j) [
  | inr m ↦ inr (m.0, omega (arith, m.1), m.2, m.3)
  | inl f ↦ elim (heard_or ps j) [ inl h ↦ inl (below_more ps j h f) | inr n ↦ inr (j, omega arith, f, n) ]
]

pub some_lowest : (ps : List FragmentValue) → ((a : FragmentValue) → In a ps → a.number < max_packets) → (r : ℕ) × LowestUnheard ps r
unfolding Missing
some_lowest ps low = elim (missing_or ps max_packets) [
  | inl f ↦ (max_packets, record { most = omega arith; below = f; at = λ h. omega (arith, low h.0 h.1, h.2) })
  | inr m ↦ (m.0, record { most = omega (arith, m.1); below = m.2; at = m.3 })
]
