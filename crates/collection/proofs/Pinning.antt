-- What packets that do not contradict agree on. Only one answer fits, and the order of the packets does not matter.
use Rattle.std.proofs.Common.{◌≡◌, ℕ, zero, suc, ◌+◌, ◌≤◌, true, ◌⊎◌, List, ◌∷◌, ◌++◌, sym, refl, ap, ◌∙◌, subst, inl, inr, arith}
use Rattle.std.specs.Str.{bytes_eq}
use Rattle.std.proofs.lemmas.Slice.Eq.{bytes_eq-Decides}
use Rattle.std.proofs.lemmas.Bool.{cases_Bool, cases_lt, cases_order}
use Rattle.std.proofs.lemmas.Bool.Decides.{not_from_Decides}
use Rattle.collection.specs.Fragments.{FragmentValue, Ranged, In, SomeIn, Against, Contradict, Calm, Whole, Joined, Message, Counted, LowestUnheard}
use Rattle.collection.specs.Fragments.Contradict.{other_piece, other_count, past_stop, outside_count, other_length, longer_stop}
use Rattle.collection.specs.declared.summary.Summary.{Summary}
use Rattle.collection.specs.declared.summary.Relation.{Relation}
use Rattle.collection.specs.declared.summary.Relation.TheVariants.{New, Repeated, Contradicts}
use Rattle.collection.specs.Kept.{Open, Related, AnswersPinned}

-- ---- two packets

pub no_self : (a : FragmentValue) → Ranged a → Contradict a a → ⊥
no_self a r (other_piece h) = h.1 (refl, refl)
no_self a r (other_count h) = h.2 refl
no_self a r (past_stop (inl h)) = omega (arith, h.1)
no_self a r (past_stop (inr h)) = omega (arith, h.1)
no_self a r (outside_count (inl (p, inl l))) = omega (arith, r.within p)
no_self a r (outside_count (inl (p, inr ne))) = ne (r.ends p)
no_self a r (outside_count (inr (p, inl l))) = omega (arith, r.within p)
no_self a r (outside_count (inr (p, inr ne))) = ne (r.ends p)
no_self a r (other_length h) = h.2 refl
no_self a r (longer_stop (inl h)) = omega (arith, h.2)
no_self a r (longer_stop (inr h)) = omega (arith, h.2)

swapped : {P Q : Type 0} → P ⊎ Q → Q ⊎ P
swapped (inl p) = inr p
swapped (inr q) = inl q

pub flip : (a b : FragmentValue) → Contradict a b → Contradict b a
flip a b (other_piece h) = other_piece (sym h.0, λ e. h.1 (sym e.0, sym e.1))
flip a b (other_count h) = other_count (h.1, h.0, λ e. h.2 (sym e))
flip a b (past_stop h) = past_stop (swapped h)
flip a b (outside_count h) = outside_count (swapped h)
flip a b (other_length h) = other_length (h.1, h.0, λ e. h.2 (sym e))
flip a b (longer_stop h) = longer_stop (swapped h)

-- two packets of one number that do not contradict have one body
pub same_body : (a b : FragmentValue) → (Contradict a b → ⊥) → a.number ≡ b.number → a.body ≡ b.body
same_body a b free e =
    let d = bytes_eq-Decides a.body b.body in
    elim (cases_Bool (bytes_eq a.body b.body)) [
      | inl t ↦ d.0 t
      | inr f ↦ absurd (free (other_piece (e, λ x. not_from_Decides (bytes_eq a.body b.body) d f x.0)))
    ]

-- ---- packets of which no two contradict

-- one more packet, which contradicts none
pub calm_more : (q : FragmentValue) (ps : List FragmentValue) → Ranged q → Calm ps → (Against ps q → ⊥) → Calm (q ∷ ps)
calm_more q ps r calm free a b (inl e) (inl f) c = no_self q r (subst (λ (x : FragmentValue). Contradict x q) e (subst (λ (x : FragmentValue). Contradict a x) f c))
calm_more q ps r calm free a b (inl e) (inr j) c = free (b, j, subst (λ (x : FragmentValue). Contradict x b) e c)
calm_more q ps r calm free a b (inr i) (inl f) c = free (a, i, flip a q (subst (λ (x : FragmentValue). Contradict a x) f c))
calm_more q ps r calm free a b (inr i) (inr j) c = calm a b i j c

-- a stop packet's number is the highest
pub stop_top : (ps : List FragmentValue) → Calm ps → (z a : FragmentValue) → In z ps → In a ps → z.stop ≡ true → a.number ≤ z.number
stop_top ps calm z a i j t = elim (cases_lt z.number a.number) [ inl l ↦ absurd (calm z a i j (past_stop (inl (t, l)))) | inr le ↦ le ]

-- all stop packets have one number
pub one_stop : (ps : List FragmentValue) → Calm ps → (z y : FragmentValue) → In z ps → In y ps → z.stop ≡ true → y.stop ≡ true → z.number ≡ y.number
one_stop ps calm z y i j t u = omega (arith, stop_top ps calm z y i j t, stop_top ps calm y z j i u)

joined_one : (ps : List FragmentValue) → Calm ps → (k : ℕ) (xs ys : List ℕ) → Joined ps k xs → Joined ps k ys → xs ≡ ys
joined_one ps calm zero xs ys e f = e ∙ sym f
joined_one ps calm (suc k) xs ys (us, j, (a, h, (n, e))) (vs, i, (b, g, (m, f))) =
    e ∙ ap (λ (x : List ℕ). x ++ a.body) (joined_one ps calm k us vs j i) ∙ ap (λ (x : List ℕ). vs ++ x) (same_body a b (calm a b h g) (n ∙ sym m)) ∙ sym f

-- the packets have at most one message
pub message_one : (ps : List FragmentValue) (m n : List ℕ) → Calm ps → Message ps m → Message ps n → m ≡ n
message_one ps m n calm (z, i, (t, j)) (y, k, (u, l)) =
    joined_one ps calm (suc y.number) m n (subst (λ (x : ℕ). Joined ps (suc x) m) (one_stop ps calm z y i k t u) j) l

-- ---- the order of packets

some_order : (ps qs : List FragmentValue) (P : FragmentValue → Type 0) → ((a : FragmentValue) → In a ps → In a qs) → SomeIn ps P → SomeIn qs P
some_order ps qs P to s = (s.0, to s.0 s.1, s.2)

joined_order : (ps qs : List FragmentValue) → ((a : FragmentValue) → In a ps → In a qs) → (k : ℕ) (xs : List ℕ) → Joined ps k xs → Joined qs k xs
joined_order ps qs to zero xs e = e
joined_order ps qs to (suc k) xs (ys, j, (a, h, f)) = (ys, joined_order ps qs to k ys j, (a, to a h, f))

-- two lists with the same packets are whole together
pub whole_order : (ps qs : List FragmentValue) → ((a : FragmentValue) → In a ps → In a qs) → ((a : FragmentValue) → In a qs → In a ps) → Whole ps → Whole qs
whole_order ps qs to from (calm, (z, i, (t, h))) =
    (λ a b j k. calm a b (from a j) (from b k), (z, to z i, (t, λ n l. some_order ps qs (λ a. a.number ≡ n) to (h n l))))

-- and have the same message
pub message_order : (ps qs : List FragmentValue) (m : List ℕ) → ((a : FragmentValue) → In a ps → In a qs) → ((a : FragmentValue) → In a qs → In a ps) → Message ps m → Message qs m
message_order ps qs m to from (z, i, (t, j)) = (z, to z i, (t, joined_order ps qs to (suc z.number) m j))

-- ---- answers

one_relation : (ps : List FragmentValue) (q : FragmentValue) (r t : Relation) → Related ps q r → Related ps q t → r ≡ t
one_relation ps q New New h k = refl
one_relation ps q New Repeated h k = absurd (h.1 k.1)
one_relation ps q New Contradicts h k = absurd (h.0 k)
one_relation ps q Repeated New h k = absurd (k.1 h.1)
one_relation ps q Repeated Repeated h k = refl
one_relation ps q Repeated Contradicts h k = absurd (h.0 k)
one_relation ps q Contradicts New h k = absurd (k.0 h)
one_relation ps q Contradicts Repeated h k = absurd (k.0 h)
one_relation ps q Contradicts Contradicts h k = refl

one_count : (ps : List FragmentValue) (j r t : ℕ) → Counted ps j r → Counted ps j t → r ≡ t
unfolding Counted
one_count ps zero r t h k = h ∙ sym k
one_count ps (suc j) r t (inl h) (inl k) = h.1.2 ∙ ap (λ (x : ℕ). x + 1) (one_count ps j h.1.0 k.1.0 h.1.1 k.1.1) ∙ sym k.1.2
one_count ps (suc j) r t (inl h) (inr k) = absurd (k.0 h.0)
one_count ps (suc j) r t (inr h) (inl k) = absurd (h.0 k.0)
one_count ps (suc j) r t (inr h) (inr k) = one_count ps j r t h.1 k.1

one_lowest : (ps : List FragmentValue) (r t : ℕ) → LowestUnheard ps r → LowestUnheard ps t → r ≡ t
one_lowest ps r t h k = elim (cases_order r t) [ inl e ↦ e | inr o ↦ elim o [ inl l ↦ absurd (h.at (k.below r l)) | inr l ↦ absurd (k.at (h.below t l)) ] ]

-- a summary is of any list with the same packets
order : (ps qs : List FragmentValue) (s : Summary) (piece : ℕ → List ℕ) → ((a : FragmentValue) → In a ps → In a qs) → ((a : FragmentValue) → In a qs → In a ps) → Open ps s piece → Open qs s piece
order ps qs s piece to from o = record {
  calm = λ a b i j. o.calm a b (from a i) (from b j);
  ranged = λ a i. o.ranged a (from a i);
  told = λ a i. o.told a (from a i);
  heard = λ n h. let a = o.heard n h in (a.0, to a.0 a.1, a.2);
  kept = λ a i. o.kept a (from a i);
  bare = o.bare;
  ended = λ z e. let a = o.ended z e in (a.0, to a.0 a.1, a.2);
  endless = λ e a i. o.endless e a (from a i);
  said = λ n e. let a = o.said n e in (a.0, to a.0 a.1, a.2);
  unsaid = λ z a i. o.unsaid z a (from a i);
  long = λ l e. let a = o.long l e in (a.0, to a.0 a.1, a.2);
  short = λ e a i. o.short e a (from a i);
}

pub answers_pinned : AnswersPinned
answers_pinned = record { relation = one_relation; count = one_count; lowest = one_lowest; order = order }
