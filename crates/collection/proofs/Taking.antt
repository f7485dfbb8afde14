-- One packet more.
use Rattle.std.proofs.Common.{◌≡◌, ℕ, ◌<◌, true, false, ◌⊎◌, List, ◌∷◌, length, Some, None, Option, unwrap_or, sym, refl, ap, ◌∙◌, subst, inl, inr, arith}
use Rattle.std.proofs.lemmas.Option.{none-some, same_Some}
use Rattle.std.proofs.lemmas.Bool.{cases_eq, cases_Bool}
use Rattle.std.proofs.lemmas.Bool.Decides.{nat_tests}
use Rattle.numbers.specs.Marks.{has, Inserted}
use Rattle.collection.specs.Fragments.{FragmentValue, Ranged, In, SomeIn, Against}
use Rattle.collection.specs.declared.fragment.Fragment.{Fragment}
use Rattle.collection.specs.declared.summary.Last.{Last}
use Rattle.collection.specs.declared.summary.Summary.{Summary}
use Rattle.collection.specs.Kept.{Open, PiecePut, Taken, StopWith, CountWith, LengthWith, shown}
use Rattle.collection.proofs.Pinning.{same_body, calm_more}

-- a count that is not 0 is said
said_some : (c : Option ℕ) → 0 < unwrap_or c 0 → c ≡ Some (unwrap_or c 0)
said_some None l = absurd (omega arith)
said_some (Some n) l = refl

pub fragment_ranged : (p : Fragment) → Ranged (shown p)
fragment_ranged p = record {
  limits = p.limits;
  within = λ l. p.within _ (said_some p.count l);
  ends = λ l. let e = p.ends _ (said_some p.count l) in (λ t. grind (arith, nat_tests), λ h. grind (arith, nat_tests));
}

-- what holds of q and of every packet of ps
each_more : (ps : List FragmentValue) (q : FragmentValue) (P : FragmentValue → Type 0) → P q → ((a : FragmentValue) → In a ps → P a) → (a : FragmentValue) → In a (q ∷ ps) → P a
each_more ps q P here there a (inl e) = subst P (sym e) here
each_more ps q P here there a (inr i) = there a i

some_more : (ps : List FragmentValue) (q : FragmentValue) (P : FragmentValue → Type 0) → SomeIn ps P → SomeIn (q ∷ ps) P
some_more ps q P s = (s.0, inr s.1, s.2)

agree : (ps : List FragmentValue) (q : FragmentValue) → (Against ps q → ⊥) → (a : FragmentValue) → In a ps → q.number ≡ a.number → q.body ≡ a.body
agree ps q free a i e = same_body q a (λ h. free (a, i, h)) e

module _ (s t : Summary) (q : FragmentValue) (ranged : Ranged q)
    (marked : Inserted s.heard t.heard q.number) (stopped : StopWith s q t.stop) (counted : CountWith s q t.count) (sized : LengthWith s q t.length) where
  marks : (n : ℕ) → ((n ≡ q.number) × (has t.heard n ≡ 1)) ⊎ ((n ≡ q.number → ⊥) × (has t.heard n ≡ has s.heard n))
  marks n = elim (cases_eq n q.number) [
    | inl e ↦ inl (e, ap (has t.heard) e ∙ marked.here ranged.limits.0)
    | inr ne ↦ inr (ne, marked.there n ne)
  ]

  fresh : (ps : List FragmentValue) (before after : ℕ → List ℕ) → Open ps s before → (Against ps q → ⊥) → PiecePut q before after → Open (q ∷ ps) t after
  fresh ps before after o free put = record {
    calm = calm_more q ps ranged o.calm free;
    ranged = each_more ps q Ranged ranged o.ranged;
    told = each_more ps q (λ a. has t.heard a.number ≡ 1) (marked.here ranged.limits.0)
        (λ a i. elim (marks a.number) [ inl m ↦ m.1 | inr m ↦ m.1 ∙ o.told a i ]);
    heard = λ n h. elim (marks n) [ inl m ↦ (q, inl refl, sym m.0) | inr m ↦ some_more ps q (λ a. a.number ≡ n) (o.heard n (sym m.1 ∙ h)) ];
    kept = each_more ps q (λ a. after a.number ≡ a.body) put.here
        (λ a i. elim (cases_eq a.number q.number) [
          | inl e ↦ ap after e ∙ put.here ∙ agree ps q free a i (sym e)
          | inr ne ↦ put.there a.number ne ∙ o.kept a i
        ]);
    bare = λ n z. elim (marks n) [ inl m ↦ absurd (omega (arith, m.1, z)) | inr m ↦ put.there n m.0 ∙ o.bare n (sym m.1 ∙ z) ];
    ended = λ z e. elim (cases_Bool q.stop) [
      | inl l ↦
          let f = same_Some (record { number = q.number; length = length q.body }) z (sym (stopped.new l) ∙ e) in
          (q, inl refl, (l, ap (λ (x : Last). x.number) f, ap (λ (x : Last). x.length) f))
      | inr f ↦ some_more ps q (λ a. (a.stop ≡ true) × (a.number ≡ z.number) × (length a.body ≡ z.length)) (o.ended z (sym (stopped.old f) ∙ e))
    ];
    endless = λ e. elim (cases_Bool q.stop) [
      | inl l ↦ absurd (none-some _ (sym e ∙ stopped.new l))
      | inr f ↦ each_more ps q (λ a. a.stop ≡ false) f (o.endless (sym (stopped.old f) ∙ e))
    ];
    said = λ n e. elim (cases_eq q.count 0) [
      | inl z ↦ some_more ps q (λ a. (0 < a.count) × (a.count ≡ n)) (o.said n (sym (counted.old z) ∙ e))
      | inr ne ↦ let some : 0 < q.count = omega (arith, ne) in (q, inl refl, (some, same_Some q.count n (sym (counted.new some) ∙ e)))
    ];
    unsaid = λ e. elim (cases_eq q.count 0) [
      | inl z ↦ each_more ps q (λ a. a.count ≡ 0) z (o.unsaid (sym (counted.old z) ∙ e))
      | inr ne ↦ absurd (none-some _ (sym e ∙ counted.new (omega (arith, ne))))
    ];
    long = λ l e. elim (cases_Bool q.stop) [
      | inl y ↦ some_more ps q (λ a. (a.stop ≡ false) × (length a.body ≡ l)) (o.long l (sym (sized.old y) ∙ e))
      | inr f ↦ (q, inl refl, (f, same_Some (length q.body) l (sym (sized.new f) ∙ e)))
    ];
    short = λ e. elim (cases_Bool q.stop) [
      | inl y ↦ each_more ps q (λ a. a.stop ≡ true) y (o.short (sym (sized.old y) ∙ e))
      | inr f ↦ absurd (none-some _ (sym e ∙ sized.new f))
    ];
  }

  pub taken : Taken s t q
  taken = record {
    fresh = fresh;
    again = λ ps piece o free h. fresh ps piece piece o free
        (record { here = ap piece (sym h.2) ∙ o.kept h.0 h.1 ∙ sym (agree ps q free h.0 h.1 (sym h.2)); there = λ n ne. refl });
  }

-- the pieces may stand on another shelf, or at another slot
pub moved : (ps : List FragmentValue) (s : Summary) (before after : ℕ → List ℕ) → Open ps s before → ((n : ℕ) → after n ≡ before n) → Open ps s after
moved ps s before after o same = record {
  calm = o.calm;
  ranged = o.ranged;
  told = o.told;
  heard = o.heard;
  kept = λ a i. same a.number ∙ o.kept a i;
  bare = λ n z. same n ∙ o.bare n z;
  ended = o.ended;
  endless = o.endless;
  said = o.said;
  unsaid = o.unsaid;
  long = o.long;
  short = o.short;
}
