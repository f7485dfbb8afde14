-- A number is found among the packets heard just where a packet of it was heard.
use Rattle.std.proofs.Common.{◌≡◌, ℕ, Bool, true, cond, eqb, List, [], ◌∷◌, sym, refl, ap, ◌∙◌, inl, inr}
use Rattle.std.proofs.lemmas.Bool.{false≢true, cases_Bool, eq-eqb, eqb-true}
use Rattle.collection.specs.Fragments.{FragmentValue, Heard}
use Rattle.history.specs.Stays.{numbered}

pub in_numbered : (n : ℕ) (ps : List FragmentValue) → Heard ps n → numbered n ps ≡ true
in_numbered n [] h = absurd h.1
in_numbered n (x ∷ ps) (a, inl e, f) = ap (λ (b : Bool). cond b true (numbered n ps)) (eq-eqb x.number n (ap (λ (w : FragmentValue). w.number) (sym e) ∙ f))
in_numbered n (x ∷ ps) (a, inr i, f) = elim (cases_Bool (eqb x.number n)) [
  | inl t ↦ ap (λ (b : Bool). cond b true (numbered n ps)) t
  | inr t ↦ ap (λ (b : Bool). cond b true (numbered n ps)) t ∙ in_numbered n ps (a, i, f)
]

pub numbered_in : (n : ℕ) (ps : List FragmentValue) → numbered n ps ≡ true → Heard ps n
numbered_in n [] e = absurd (false≢true e)
numbered_in n (x ∷ ps) e = elim (cases_Bool (eqb x.number n)) [
  | inl t ↦ (x, inl refl, eqb-true x.number n t)
  | inr t ↦ let h = numbered_in n ps (sym (ap (λ (b : Bool). cond b true (numbered n ps)) t) ∙ e) in (h.0, inr h.1, h.2)
]
