-- The ids that an issuer gives.
use Rattle.std.proofs.lemmas.Grind.{common_steps}
use Rattle.std.proofs.Common.{◌≡◌, ℕ, ◌<◌, ◌≤◌, List, [], ◌∷◌, ◌++◌, length, get_or, sym, refl, ◌∙◌, subst, arith}
use Rattle.sender.specs.Limits.{serial_count}
use Rattle.sender.specs.Ids.{id_of, IdsDiffer, Issuing, Issued, Issues, issue_none, issue_more, issue_refused, IssuesInOrder}

pub ids_differ : IdsDiffer
unfolding id_of
ids_differ n o j k hn ho hj hk e = grind (arith, common_steps)

-- one node's serial, by the id
one_serial : (n j k : ℕ) → j < serial_count → k < serial_count → id_of n j ≡ id_of n k → j ≡ k
unfolding id_of
one_serial n j k hj hk e = grind (arith, common_steps)

-- an issuer after a run
record Counted (n : ℕ) (ids : List (List ℕ)) (s : Issuing) : Type 0 where
  node_is : s.node ≡ n
  given_is : s.given ≡ length ids
  few : length ids ≤ serial_count
  each : (k : ℕ) → k < length ids → get_or ids k [] ≡ id_of n k

counted_more : {n : ℕ} {ids : List (List ℕ)} {s t : Issuing} {i : List ℕ} → Counted n ids s → Issued s i t → Counted n (ids ++ i ∷ []) t
counted_more {n} {ids} {s} {t} {i} b a = grind (arith, common_steps)

counted : (n : ℕ) (ids : List (List ℕ)) (s : Issuing) → Issues n ids s → Counted n ids s
counted n _ _ issue_none = record { node_is = refl; given_is = refl; few = omega arith; each = λ k h. absurd (omega arith) }
counted n _ _ (issue_more r a) = counted_more (counted n _ _ r) a
counted n ids _ (issue_refused r a) = let P : Issuing → Type 0 = λ y. Counted n ids y in subst P (sym a.same) (counted n _ _ r)

pub issues_in_order : IssuesInOrder
issues_in_order n ids s r =
    let b = counted n ids s r in
    let f = b.few in
    record {
      given_are = b.given_is;
      few = f;
      each = b.each;
      once = λ j k hj hk e. one_serial n j k (omega arith) (omega arith) (sym (b.each j hj) ∙ (e ∙ b.each k hk));
    }
