-- The parts of bytes, as an iterator gives them.
use Rattle.std.proofs.Common.{◌≡◌, ℕ, zero, suc, ◌+◌, ◌<◌, min, Bool, true, false, List, [], ◌∷◌, ◌++◌, length, get_or, take, drop, sym, refl, ap, ◌∙◌, subst, inl, inr, arith}
use Rattle.std.proofs.lemmas.Bool.{cases_lt, false≢true}
use Rattle.std.proofs.lemmas.List.{get_or_default, length-append, take_at, drop_at, take_all, drop_all}
use Rattle.std.proofs.lemmas.Iterator.{YieldsList}
use Rattle.std.proofs.lemmas.Iterator.Splits.{YieldsList-from_shown_while}
use Rattle.std.proofs.lemmas.Iterator.Consumers.{YieldsList-from_enumerate, YieldsList-at}
use Rattle.std.specs.Iterator.Adapters.{enumerate_source, enumerate_count, enumerate_steps}
use Rattle.std.specs.Simd.{first_chunks}
use Rattle.std.specs.Slice.Iter.{chunks_steps, chunks_rest, chunks_size}
use Rattle.std.specs.Bool.{MatchBool, IsTrue}
use Rattle.std.specs.List.{AllWithin, HoldsAt, enumerate_from}
use Rattle.std.proofs.lemmas.List.FromFn.{get_or-enumerate_from, length-enumerate_from}
use Rattle.shelf.specs.Units.{cost}
use Rattle.shelf.specs.Memories.{Units}
use Rattle.shelf.proofs.Places.{chunk_is}
use Rattle.blocks.specs.Parts.{part_of, part_in, piece_in, Sound}
use Rattle.blocks.specs.Cuts.{cost_is, parts_three, parts_same}
use Rattle.blocks.specs.Sounds.{part_is, piece_short}

-- all parts of the bytes
abbrev pub parts : List ℕ → List (List ℕ)
parts bytes = first_chunks 500 (cost 500 (length bytes)) bytes

length_chunks : (n k : ℕ) (xs : List ℕ) → length (first_chunks n k xs) ≡ k
length_chunks n zero xs = refl
length_chunks n (suc k) xs = let e = length_chunks n k (drop n xs) in omega arith

pub length_parts : (bytes : List ℕ) → length (parts bytes) ≡ cost 500 (length bytes)
length_parts bytes = length_chunks 500 (cost 500 (length bytes)) bytes

pub nth_part : (bytes : List ℕ) (k : ℕ) → k < cost 500 (length bytes) → get_or (parts bytes) k [] ≡ part_of bytes k
nth_part bytes k l = chunk_is 500 (cost 500 (length bytes)) k bytes l

-- the first part, and what is left after it
cut : (xs x rest : List ℕ) → xs ≡ x ++ rest → length x ≡ min 500 (length xs) → (take 500 xs ≡ x) × (drop 500 xs ≡ rest)
cut xs x rest e size =
    let long = ap length e ∙ length-append x rest in
    elim (cases_lt (length xs) 500) [
      | inl short ↦ (
        take_all 500 xs (omega arith) ∙ (sym (take_all (length xs) xs (omega arith)) ∙ (ap (take (length xs)) e ∙ take_at x rest (length xs) (omega arith))),
        drop_all 500 xs (omega arith) ∙ (sym (drop_all (length xs) xs (omega arith)) ∙ (ap (drop (length xs)) e ∙ drop_at x rest (length xs) (omega arith))),
      )
      | inr full ↦ (ap (take 500) e ∙ take_at x rest 500 (omega arith), ap (drop 500) e ∙ drop_at x rest 500 (omega arith))
    ]

one_more : (xs x rest : List ℕ) → xs ≡ x ++ rest → length x ≡ min 500 (length xs) → 0 < length xs → parts xs ≡ x ∷ parts rest
one_more xs x rest e size some =
    let long = ap length e ∙ length-append x rest in
    let more : cost 500 (length xs) ≡ suc (cost 500 (length rest)) = omega (arith, cost_is (length xs), cost_is (length rest)) in
    let c = cut xs x rest e size in
    ap (λ k. first_chunks 500 k xs) more ∙ rw (c.0, c.1)

YieldsList-from_parts : {s : _} (bytes : List ℕ) → chunks_rest s ≡ bytes → chunks_size s ≡ 500 → YieldsList (chunks_steps {A = ℕ}) (λ x. x.now) s (parts bytes)
YieldsList-from_parts {s} bytes e size =
    subst (λ (bs : List ℕ). YieldsList (chunks_steps {A = ℕ}) (λ x. x.now) s (parts bs)) e
    (YieldsList-from_shown_while (chunks_steps {A = ℕ}) (λ x. x.now) (λ t. parts (chunks_rest t)) (λ t. chunks_size t ≡ 500)
    (λ s t p h. omega (arith, length_parts (chunks_rest s), cost_is (length (chunks_rest s)), h.1.0))
    (λ s x t p h. (h.0 ∙ p, one_more (chunks_rest s) x.now (chunks_rest t) h.1.0 (h.1.1 ∙ ap (λ k. min k (length (chunks_rest s))) p) h.1.2))
    s size)

-- part k, as it comes with its index
item : (bytes : List ℕ) (k : ℕ) → k < cost 500 (length bytes)
    → ((get_or (enumerate_from 0 (parts bytes)) k (0, [])).0 ≡ k) × ((get_or (enumerate_from 0 (parts bytes)) k (0, [])).1 ≡ part_of bytes k)
item bytes k l =
    let e = get_or-enumerate_from 0 (parts bytes) k (0, []) (omega (arith, length_parts bytes)) in
    let z : 0 + k ≡ k = omega arith in
    (ap (λ p. p.0) e ∙ z, ap (λ p. p.1) e ∙ nth_part bytes k l)

pub items : (bytes : List ℕ) → length (enumerate_from 0 (parts bytes)) ≡ cost 500 (length bytes)
items bytes = length-enumerate_from 0 (parts bytes) ∙ length_parts bytes

-- they come with their indices
pub parts_road : {s a b : _} (bytes : List ℕ) → s ≡ a → enumerate_source a ≡ b → enumerate_count a ≡ 0 → chunks_rest b ≡ bytes → chunks_size b ≡ 500
    → YieldsList {B = ℕ × List ℕ} (enumerate_steps (chunks_steps {A = ℕ})) (λ p. (p.0, p.1.now)) s (enumerate_from 0 (parts bytes))
parts_road bytes is source start rest size =
    YieldsList-at is (YieldsList-from_enumerate (YieldsList-at source (YieldsList-from_parts bytes rest size)) start)

-- one turn of a loop over the parts and their indices
pub part_turn : (bytes : List ℕ) (k : ℕ) (p : ℕ × List ℕ) → (k < length (enumerate_from 0 (parts bytes))) × (p ≡ get_or (enumerate_from 0 (parts bytes)) k p)
    → (k < cost 500 (length bytes)) × (p ≡ (k, part_of bytes k))
part_turn bytes k p h =
    let within : k < cost 500 (length bytes) = omega (arith, h.0, items bytes) in
    let l : k < length (parts bytes) = omega (arith, length_parts bytes) in
    let z : 0 + k ≡ k = omega arith in
    let part : get_or (parts bytes) k p.1 ≡ part_of bytes k = get_or_default (parts bytes) k p.1 [] l ∙ nth_part bytes k within in
    (within, h.1 ∙ (get_or-enumerate_from 0 (parts bytes) k p l ∙ (ap (λ j. (j, get_or (parts bytes) k p.1)) z ∙ ap (λ (x : List ℕ). (k, x)) part)))

-- a piece is just these bytes where it has as many and each part is theirs
pub is_cut : (blocks : Units) (count : ℕ) → Sound blocks count → (s n : ℕ) (bytes : List ℕ) → length (piece_in blocks count s n) ≡ length bytes → (r : Bool)
    → MatchBool r (AllWithin (λ p. part_in blocks count s n p.0 ≡ p.1) (enumerate_from 0 (parts bytes)) 0 (length (enumerate_from 0 (parts bytes))))
    ((k : ℕ) × (k < length (enumerate_from 0 (parts bytes))) × HoldsAt (λ p. part_in blocks count s n p.0 ≡ p.1 → ⊥) (enumerate_from 0 (parts bytes)) k)
    → (IsTrue r → piece_in blocks count s n ≡ bytes) × (piece_in blocks count s n ≡ bytes → IsTrue r)
is_cut blocks count sound s n bytes long true all =
    let short = piece_short blocks count sound s n in (
      (λ _. parts_same (piece_in blocks count s n) bytes long (λ k l.
          let few : k < 3 = omega arith in
          let within : k < cost 500 (length bytes) = omega (arith, cost_is (length bytes)) in
          let i = item bytes k within in
          part_is blocks count sound s n k few
          ∙ (ap (part_in blocks count s n) (sym i.0) ∙ (all k (0, []) (omega arith) (omega (arith, items bytes)) ∙ i.1)))),
      (λ _. refl),
    )
is_cut blocks count sound s n bytes long false some =
    let k = some.0 in
    let within : k < cost 500 (length bytes) = omega (arith, some.1, items bytes) in
    let few = parts_three (length bytes) k (omega (arith, piece_short blocks count sound s n)) within in
    let i = item bytes k within in (
      (λ t. absurd (false≢true t)),
      (λ e. absurd (some.2 (0, []) (ap (part_in blocks count s n) i.0 ∙ (sym (part_is blocks count sound s n k few) ∙ (ap (λ x. part_of x k) e ∙ sym i.1))))),
    )
