use Rattle.std.proofs.Common.{ℕ, ◌≡◌, ◌<◌, Bool, true, false, not, ◌↔◌, List, [], length, count_by, sym, ap, ◌∙◌, subst, arith, rules}
use Rattle.std.specs.Simd.{first_chunks}
use Rattle.std.proofs.lemmas.Bool.{iff_false, not-true, not-false}
use Rattle.std.proofs.lemmas.Iterator.{IsFirst-from_position, YieldsList-from_slice}
use Rattle.block.specs.Limits.{block_length}
use Rattle.block.specs.Blocks.{Lawful}
use Rattle.block.specs.Dumps.{block_count, is_used, LawfulUpTo, FailsAt}
use Rattle.block.proofs.Changes.{fails_if_changed}
use Rattle.block.proofs.Places.{chunk_at, used_among_chunks}
use Rattle.block.proofs.dump.inspect.Goals as goal

-- what the closure's answer says of a block
lawful_by : (b : Bool) (xs : List ℕ) → ((b ≡ true) ↔ Lawful xs) → false ≡ not b → Lawful xs
lawful_by b xs d e = d.0 (not-false b (sym e))

unlawful_by : (b : Bool) (xs : List ℕ) → Lawful xs → ((b ≡ true) ↔ Lawful xs) → true ≡ not b → ⊥
unlawful_by b xs h d e = iff_false d (not-true b (sym e)) h

pub returns-in-Some : goal.returns-in-Some
returns-in-Some c =
    let m = c.args.dump.now in
    let n = block_count m in
    let first = IsFirst-from_position _ _ c.position.result (λ x. Lawful x → ⊥) Lawful c.position.ensures.ran (YieldsList-from_slice (first_chunks block_length n m) cc) (λ x q k h. search (rules, unlawful_by)) (λ x q k. search (rules, lawful_by)) in
    let found = rw c.in-Some.is at first in
    let within : c.in-Some.place < n = omega (arith, found.0, c.as_chunks.ensures.front_len, ap length c.as_chunks.ensures.front) in
    let fails : FailsAt m c.in-Some.place = record {
      within = within;
      lawful_before = λ i l. subst Lawful (chunk_at n m i [] (omega arith)) (found.2 i [] (omega arith) l);
      unlawful = λ h. found.1 [] (subst Lawful (sym (chunk_at n m c.in-Some.place [] within)) h);
    } in
    record {
      answer = record { number_is = c.refusal.ensures.number_is; fails = subst (FailsAt m) (sym c.refusal.ensures.place_is) fails; by_layer = c.refusal.ensures.by_layer };
      one_change = tt;
    }

pub returns-in-None : goal.returns-in-None
returns-in-None c =
    let m = c.args.dump.now in
    let n = block_count m in
    let blocks = first_chunks block_length n m in
    let none = IsFirst-from_position _ _ c.position.result (λ x. Lawful x → ⊥) Lawful c.position.ensures.ran (YieldsList-from_slice blocks cc) (λ x q k h. search (rules, unlawful_by)) (λ x q k. search (rules, lawful_by)) in
    let lawful = rw c.in-None.is at none in
    let all : LawfulUpTo m n = λ i l. subst Lawful (chunk_at n m i [] l) (lawful i [] (omega arith) (omega (arith, c.as_chunks.ensures.front_len, ap length c.as_chunks.ensures.front))) in
    let count : c.count.result ≡ count_by is_used (first_chunks block_length n m) = search rules in
    record {
      answer = record { all_lawful = all; used_are = count ∙ used_among_chunks n m };
      one_change = fails_if_changed m all;
    }
