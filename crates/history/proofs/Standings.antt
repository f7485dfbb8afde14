-- An id stands in one way only after a history.
use Rattle.std.proofs.Common.{◌≡◌, ℕ, cond, ◌⊎◌, List, [], ◌∷◌, sym, ap, ◌∙◌, subst, inl, inr, arith}
use Rattle.std.specs.Str.{bytes_eq}
use Rattle.std.proofs.lemmas.Slice.Eq.{bytes_eq-Decides}
use Rattle.std.proofs.lemmas.Bool.{cases_Bool, both_ways}
use Rattle.packet.specs.Packets.{PacketValue}
use Rattle.packet.proofs.Encodings.{one_packet}
use Rattle.collection.specs.Fragments.{FragmentValue}
use Rattle.history.specs.Calls.{Call, Reply, History, arrives, fetches, ticks, asks}
use Rattle.history.specs.Stays.{Stay, Standing, Stands, After, Passes, Survives, Ends, Carries, outside, inside, stay_of, fragment_of, hears, more}

pub same_or : (xs ys : List ℕ) → (xs ≡ ys) ⊎ (xs ≡ ys → ⊥)
same_or xs ys = elim (cases_Bool (bytes_eq xs ys)) [
  | inl e ↦ inl ((bytes_eq-Decides xs ys).0 e)
  | inr e ↦ inr (λ x. both_ways (bytes_eq xs ys) e ((bytes_eq-Decides xs ys).1 x))
]

-- a datagram is of one id, and says one thing
pub carries_one : (xs id id' : List ℕ) (q q' : FragmentValue) → Carries xs id q → Carries xs id' q' → (id ≡ id') × (q ≡ q')
carries_one xs id id' q q' a b =
    let e = one_packet a.value b.value xs a.encodes b.encodes in
    (sym a.id_is ∙ ap (λ (v : PacketValue). v.id) e ∙ b.id_is, sym a.says ∙ ap fragment_of e ∙ b.says)

not_both : (p : ℕ) (l : Stay) → Survives p l → Ends p l → ⊥
not_both p l (inl w) e = e.0 w
not_both p l (inr s) e = omega (arith, s, e.1)

passes_one : (p : ℕ) (y z z' : Standing) → Passes p y z → Passes p y z' → z ≡ z'
passes_one p outside z z' a b = a ∙ sym b
passes_one p (inside l) z z' (inl a) (inl b) = a.1 ∙ sym b.1
passes_one p (inside l) z z' (inl a) (inr b) = absurd (not_both p l a.0 b.0)
passes_one p (inside l) z z' (inr a) (inl b) = absurd (not_both p l b.0 a.0)
passes_one p (inside l) z z' (inr a) (inr b) = a.1 ∙ sym b.1

after_one : (p : ℕ) (c : Call) (r : Reply) (id : List ℕ) (y z z' : Standing) → After p c r id y z → After p c r id y z' → z ≡ z'
after_one p (arrives xs) r id y z z' (inl a) (inl b) =
    a.2 ∙ ap (λ (q : FragmentValue). cond (hears y r) (inside (more q (stay_of y))) y) (carries_one xs id id a.0 b.0 a.1 b.1).1 ∙ sym b.2
after_one p (arrives xs) r id y z z' (inl a) (inr b) = absurd (b.0 a.0 a.1)
after_one p (arrives xs) r id y z z' (inr a) (inl b) = absurd (a.0 b.0 b.1)
after_one p (arrives xs) r id y z z' (inr a) (inr b) = a.1 ∙ sym b.1
after_one p (fetches i n) r id y z z' (inl a) (inl b) = a.1 ∙ sym b.1
after_one p (fetches i n) r id y z z' (inl a) (inr b) = absurd (b.0 a.0)
after_one p (fetches i n) r id y z z' (inr a) (inl b) = absurd (a.0 b.0)
after_one p (fetches i n) r id y z z' (inr a) (inr b) = a.1 ∙ sym b.1
after_one p ticks r id y z z' a b = passes_one p y z z' a b
after_one p (asks i) r id y z z' a b = a ∙ sym b

pub stands_one : (p : ℕ) (h : History) (id : List ℕ) (y z : Standing) → Stands p h id y → Stands p h id z → y ≡ z
stands_one p [] id y z a b = a ∙ sym b
stands_one p (s ∷ h) id y z a b =
    let e : a.0 ≡ b.0 = stands_one p h id a.0 b.0 a.1 b.1 in
    after_one p s.call s.reply id b.0 y z (subst (λ (x : Standing). After p s.call s.reply id x y) e a.2) b.2

pub same_stay : (l m : Stay) → inside l ≡ inside m → l ≡ m
same_stay l m e = cc

pub out_in : (l : Stay) → outside ≡ inside l → ⊥
out_in l e = let z : ◌≡◌ {A = ℕ} 0 1 = cc in omega arith
