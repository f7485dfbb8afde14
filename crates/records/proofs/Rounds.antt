-- Rounds over an input: what was read, and what of it was visited.
use Rattle.std.proofs.Common.{◌≡◌, ℕ, ◌+◌, ◌-◌, ◌%◌, ◌^◌, ◌<◌, ◌≤◌, List, [], ◌++◌, length, take, drop, Result, Ok, Option, Some, None, Vec, sym, refl, ap, ◌∙◌, subst, ◌⊎◌, ⊎_elim, inl, inr, arith}
use Rattle.std.specs.List.{flat_map}
use Rattle.std.specs.Vec.{with_items}
use Rattle.std.specs.Io.KnownBytes.{Consumes, Keeps, IsAtEnd}
use Rattle.std.proofs.lemmas.List.{append_assoc, append-nil, length-append, get_or_append_left, get_or-append_right, take-append-drop, with_items_is}
use Rattle.std.proofs.lemmas.Grind.{flat_map-append}
use Rattle.std.proofs.Math.Nat.{mod-add-mod}
use Rattle.std.proofs.lemmas.Bool.{cases_lt}
use Rattle.records.specs.Records.{record_of, Cut, Walked, Passed}
use Rattle.records.specs.Visits.{VisitsEach, Rounds, BreaksOff, VisitsAll, VisitsUntil}
use Rattle.records.specs.Visits.Rounds.{start, round}
use Rattle.records.proofs.Walks.{begins_shorter, passed_none}

-- known bytes that are read in two parts
pub consumes_none : (a : Option (List ℕ)) → Consumes a a []
consumes_none None = tt
consumes_none (Some xs) = refl

pub consumes_more : (a b c : Option (List ℕ)) (xs ys : List ℕ) → Consumes a b xs → Consumes b c ys → Consumes a c (xs ++ ys)
consumes_more None b c xs ys h k = tt
consumes_more (Some a) None c xs ys h k = absurd h
consumes_more (Some a) (Some b) None xs ys h k = absurd k
consumes_more (Some a) (Some b) (Some c) xs ys h k = h ∙ (ap (λ t. xs ++ t) k ∙ sym (append_assoc xs ys c))

pub consumes_kept : (a b : Option (List ℕ)) → Keeps a b → Consumes a b []
consumes_kept None b k = tt
consumes_kept (Some a) None k = absurd k
consumes_kept (Some a) (Some b) k = sym k

-- what is left once the first n bytes of what was read into a piece came behind those that wait
pub left_with_piece : {Z : Type 0} {left grown part : List ℕ} (piece : Vec ℕ Z) (buf waiting : List ℕ) (n : ℕ) → length buf ≡ piece.len
    → left ≡ grown → grown ≡ waiting ++ take (n - 0) part → part ≡ (with_items piece buf).items → left ≡ waiting ++ take n buf
left_with_piece piece buf waiting n e l g p =
    let z : n - 0 ≡ n = omega arith in l ∙ (g ∙ rw (z, p ∙ with_items_is piece buf e) refl)

-- more bytes come behind those that wait
pub passed_longer : {input rest left : List ℕ} {held : List (List ℕ)} (more : List ℕ) → Passed input held rest → left ≡ rest ++ more → Passed (input ++ more) held left
passed_longer {input} {rest} {left} {held} more p e = record {
  counted = p.counted;
  in_a_row = ap (λ t. t ++ more) p.in_a_row ∙ (append_assoc (flat_map record_of held) rest more ∙ ap (λ t. flat_map record_of held ++ t) (sym e));
}

-- and whole records of those that wait are passed
pub passed_on : {input waiting : List ℕ} {held : List (List ℕ)} {n used : ℕ} → Passed input held waiting → (walk : Walked waiting n used) → Passed input (held ++ walk.held) (drop used waiting)
passed_on {input} {waiting} {held} {n} {used} p walk =
    let front = flat_map record_of held in
    record {
      counted = λ i h. let l = length-append held walk.held in ⊎_elim
          (λ k. rw (get_or_append_left held walk.held [] i k) (p.counted i k))
          (λ (k : length held ≤ i). rw (get_or-append_right held walk.held (length held) i [] refl k) (walk.counted (i - length held) (omega arith)))
          (cases_lt i (length held));
      in_a_row =
          p.in_a_row ∙ (ap (λ t. front ++ t) (sym (take-append-drop used waiting) ∙ ap (λ t. t ++ drop used waiting) walk.in_a_row)
          ∙ (sym (append_assoc front (flat_map record_of walk.held) (drop used waiting)) ∙ ap (λ t. t ++ drop used waiting) (sym (flat_map-append record_of held walk.held))));
    }

module _ {V E : Type 0} (visits : V → ℕ → List ℕ → Result (Unit {0}) E → V → Type 0) (pauses : V → Result (Unit {0}) E → V → Type 0) where
  -- after some turns: what was read, what of it was visited, and what waits
  pub record RoundsSoFar (first now : Option (List ℕ)) (turns index : ℕ) (waiting : List ℕ) (v w : V) : Type 0 where
    pub came : List ℕ
    pub consumed : Consumes first now came
    pub turned : turns ≤ length came
    pub held : List (List ℕ)
    pub passed : Passed came held waiting
    pub cut_after : Cut waiting
    pub visited : Rounds visits pauses v held w
    pub indexed : index ≡ length held % 2 ^ 64

module _ {V E : Type 0} {visits : V → ℕ → List ℕ → Result (Unit {0}) E → V → Type 0} {pauses : V → Result (Unit {0}) E → V → Type 0} where
  pub rounds_none : (a : Option (List ℕ)) (v : V) → RoundsSoFar visits pauses a a 0 0 [] v v
  rounds_none a v = record {
    came = [];
    consumed = consumes_none a;
    turned = omega arith;
    held = [];
    passed = passed_none [];
    cut_after = λ xs rest b. let h = begins_shorter b in absurd (omega arith);
    visited = start;
    indexed = refl;
  }

  pub rounds_further : {first now : Option (List ℕ)} {turns index n used : ℕ} {waiting left : List ℕ} {v u s w : V} (next : Option (List ℕ)) (piece : List ℕ)
      → RoundsSoFar visits pauses first now turns index waiting v u → Consumes now next piece → left ≡ waiting ++ piece → 0 < length piece
      → (walk : Walked left n used) → VisitsEach visits u index walk.held s → pauses s (Ok tt) w
      → RoundsSoFar visits pauses first next (turns + 1) ((index + n) % 2 ^ 64) (drop used left) v w
  rounds_further {first} {now} {turns} {index} {n} {used} {waiting} {left} {v} {u} {s} {w} next piece f k e some walk visited paused = record {
    came = f.came ++ piece;
    consumed = consumes_more first now next f.came piece f.consumed k;
    turned = let l = length-append f.came piece in let t = f.turned in omega arith;
    held = f.held ++ walk.held;
    passed = passed_on (passed_longer piece f.passed e) walk;
    cut_after = walk.cut_after;
    visited = round f.held walk.held u s w f.visited (rw (← f.indexed) visited) paused;
    indexed =
        ap (λ k. (k + n) % 2 ^ 64) f.indexed ∙ (mod-add-mod (length f.held) (2 ^ 64) n
        ∙ ap (λ k. k % 2 ^ 64) (ap (λ k. length f.held + k) (sym walk.many) ∙ sym (length-append f.held walk.held)));
  }

  pub rounds_all : {first now : Option (List ℕ)} {turns index : ℕ} {waiting : List ℕ} {v w : V} (next : Option (List ℕ))
      → RoundsSoFar visits pauses first now turns index waiting v w → Consumes now next [] → IsAtEnd next ⊎ (2 ^ 64 - 1 ≤ turns) → VisitsAll visits pauses first next v w
  rounds_all {first} {now} {turns} {index} {waiting} next f k ended = record {
    came = f.came;
    consumed = subst (λ came. Consumes first next came) (append-nil f.came) (consumes_more first now next f.came [] f.consumed k);
    to_end = ⊎_elim inl (λ h. let t = f.turned in inr (omega arith)) ended;
    held = f.held;
    rest = waiting;
    passed = f.passed;
    cut_after = f.cut_after;
    visited = f.visited;
  }

  -- a round with more bytes broke off
  pub rounds_until : {first now : Option (List ℕ)} {turns index : ℕ} {waiting left : List ℕ} {v u w : V} {e : E} (next : Option (List ℕ)) (piece : List ℕ)
      → RoundsSoFar visits pauses first now turns index waiting v u → Consumes now next piece → left ≡ waiting ++ piece → BreaksOff visits pauses left index u e w
      → VisitsUntil visits pauses first next v e w
  rounds_until {first} {now} {turns} {index} {waiting} {left} {v} {u} next piece f k e broken = record {
    came = f.came ++ piece;
    consumed = consumes_more first now next f.came piece f.consumed k;
    held = f.held;
    waiting = left;
    passed = passed_longer piece f.passed e;
    at = u;
    visited = f.visited;
    broken = rw (← f.indexed) broken;
  }
