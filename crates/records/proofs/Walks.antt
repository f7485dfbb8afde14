-- A walk over records: those that were passed and visited, and what is left.
use Rattle.std.proofs.Common.{◌≡◌, ℕ, ◌+◌, ◌-◌, ◌%◌, ◌^◌, ◌<◌, ◌≤◌, List, [], ◌∷◌, ◌++◌, length, take, drop, Result, Ok, sym, refl, ap, ◌∙◌, subst, ⊎_elim, arith}
use Rattle.std.specs.List.{flat_map}
use Rattle.std.proofs.lemmas.List.{append_assoc, length-append, take_at, drop_at, length_push, flat_map_more, get_or_append_left, get_or_push}
use Rattle.std.proofs.lemmas.Bool.{cases_lt}
use Rattle.wire.specs.declared.order.ByteOrder.TheVariants.{Big}
use Rattle.wire.specs.Numbers.{digits}
use Rattle.wire.proofs.Numbers.{length_digits}
use Rattle.records.specs.Records.{record_of, Begins, Cut, Walked, Passed}
use Rattle.records.specs.Visits.{VisitsEach}

-- an input is two bytes longer than what its first record holds and what follows that
pub begins_length : {input xs rest : List ℕ} → Begins input xs rest → length input ≡ 2 + (length xs + length rest)
begins_length {input} {xs} {rest} b =
    let d = length_digits Big 2 (length xs) in
    let l = ap length b.bytes_are ∙ length-append (record_of xs) rest in
    let r = length-append (digits Big 2 (length xs)) xs in
    omega arith

-- what follows a record is shorter than the input
pub begins_shorter : {input xs rest : List ℕ} → Begins input xs rest → length rest < length input
begins_shorter b = let l = begins_length b in omega arith

pub passed_none : (input : List ℕ) → Passed input [] input
passed_none input = record { counted = λ i h. absurd (omega arith); in_a_row = refl }

pub passed_more : {input xs rest after : List ℕ} {held : List (List ℕ)} → Passed input held rest → Begins rest xs after → Passed input (held ++ xs ∷ []) after
passed_more {input} {xs} {rest} {after} {held} p b =
    let front = flat_map record_of held in
    let l = length_push held xs in
    record {
      counted = λ i h. ⊎_elim
          (λ k. rw (get_or_append_left held (xs ∷ []) [] i k) (p.counted i k))
          (λ (k : length held ≤ i). let e : length held ≡ i = omega arith in rw (get_or_push held xs [] i e) b.counted)
          (cases_lt i (length held));
      in_a_row =
          p.in_a_row ∙ (ap (λ t. front ++ t) b.bytes_are ∙ (sym (append_assoc front (record_of xs) after)
          ∙ ap (λ t. t ++ after) (flat_map_more record_of [] held xs)));
    }

module _ {V E : Type 0} (visits : V → ℕ → List ℕ → Result (Unit {0}) E → V → Type 0) where
  pub visits_one_more : (held : List (List ℕ)) (v : V) (index : ℕ) (u : V) (xs : List ℕ) (w : V) → VisitsEach visits v index held u
      → visits u ((index + length held) % 2 ^ 64) xs (Ok tt) w → VisitsEach visits v index (held ++ xs ∷ []) w
  visits_one_more [] v index u xs w e s =
      let z : index + length {A = List ℕ} [] ≡ index = omega arith in
      (w, rw (e, ← z) s, refl)
  visits_one_more (ys ∷ held) v index u xs w e s =
      let z : index + length (ys ∷ held) ≡ (index + 1) + length held = omega arith in
      (e.0, e.1, visits_one_more held e.0 (index + 1) u xs w e.2 (rw (← z) s))

  -- the n records that were passed so far, each with a visit
  pub record VisitsSoFar (input : List ℕ) (index : ℕ) (v : V) (n : ℕ) (rest : List ℕ) (w : V) : Type 0 where
    pub held : List (List ℕ)
    pub many : length held ≡ n
    pub passed : Passed input held rest
    pub visited : VisitsEach visits v index held w

module _ {V E : Type 0} {visits : V → ℕ → List ℕ → Result (Unit {0}) E → V → Type 0} where
  pub visits_further : {input xs rest after : List ℕ} {index n : ℕ} {v u w : V} → VisitsSoFar visits input index v n rest u
      → Begins rest xs after → visits u ((index + n) % 2 ^ 64) xs (Ok tt) w → VisitsSoFar visits input index v (n + 1) after w
  visits_further {input} {xs} {rest} {after} {index} {n} {v} {u} {w} f b s =
      record {
        held = f.held ++ xs ∷ [];
        many = length_push f.held xs ∙ ap (λ k. k + 1) f.many;
        passed = passed_more f.passed b;
        visited = visits_one_more visits f.held v index u xs w f.visited (rw f.many s);
      }

  -- where no whole record is left, those are all, and have the bytes before what is left
  pub visits_all : {input rest left : List ℕ} {index n : ℕ} {v w : V} → VisitsSoFar visits input index v n rest w → Cut rest → left ≡ rest
      → (walk : Walked input n (length input - length left)) × VisitsEach visits v index walk.held w
  visits_all {input} {rest} {left} {index} {n} {v} {w} f c e =
      let front = flat_map record_of f.held in
      let used = length input - length left in
      let l : length input ≡ length front + length left = ap length f.passed.in_a_row ∙ length-append front rest ∙ ap (λ k. length front + k) (ap length (sym e)) in
      let d : drop used input ≡ rest = ap (drop used) f.passed.in_a_row ∙ drop_at front rest used (omega arith) in
      let walk : Walked input n used = record {
        held = f.held;
        many = f.many;
        counted = f.passed.counted;
        used_fits = omega arith;
        in_a_row = ap (take used) f.passed.in_a_row ∙ take_at front rest used (omega arith);
        cut_after = subst Cut (sym d) c;
      } in (walk, f.visited)
