-- Visits: what becomes of a visitor that takes the records of an input, one after the other.
use Rattle.std.specs.Prelude.{◌≡◌, ℕ, ◌+◌, ◌-◌, ◌%◌, ◌^◌, ◌≤◌, ◌⊎◌, List, [], ◌∷◌, ◌++◌, length, Option, Result, Ok, Err}
use Rattle.std.specs.Io.KnownBytes.{Consumes, IsAtEnd}
use Rattle.records.specs.Records.{Begins, Cut, Walked, Passed}

-- `visits` says of one visit what the visitor was, the index, what the record holds, the answer, and what the visitor is then
module _ {V E : Type 0} (visits : V → ℕ → List ℕ → Result (Unit {0}) E → V → Type 0) where
  -- one visit for each of the records, in their order and without an error, took the visitor from v to w
  -- the first record has the index given, and each other one the next; an index has 64 bits
  abbrev pub VisitsEach : V → ℕ → List (List ℕ) → V → Type 0
  VisitsEach v index [] w = v ≡ w
  VisitsEach v index (xs ∷ held) w = (u : V) × visits v (index % 2 ^ 64) xs (Ok tt) u × VisitsEach u (index + 1) held w

  -- a visit ended in the error e and left the visitor w: each record before that one was visited without an error
  pub record VisitsUpTo (input : List ℕ) (index : ℕ) (v : V) (e : E) (w : V) : Type 0 where
    -- what the records before hold
    pub held : List (List ℕ)
    pub after : List ℕ
    pub passed : Passed input held after
    -- the visitor at that visit, and what the record holds
    pub at : V
    pub visited : VisitsEach v index held at
    pub failing : List ℕ
    pub rest : List ℕ
    pub next : Begins after failing rest
    pub failed : visits at ((index + length held) % 2 ^ 64) failing (Err e) w

  -- `pauses` says of one pause what the visitor was, the answer, and what the visitor is then
  module _ (pauses : V → Result (Unit {0}) E → V → Type 0) where
    -- rounds of visits with a pause after each, none with an error, took the visitor from v to w, and visited records that hold these
    pub data Rounds (v : V) : List (List ℕ) → V → Type 0 where
      start : Rounds v [] v
      round : (held more : List (List ℕ)) (u s w : V) → Rounds v held u → VisitsEach u (length held % 2 ^ 64) more s → pauses s (Ok tt) w → Rounds v (held ++ more) w

    -- an input was read to its end, or for 2 ^ 64 - 1 bytes and more, and each whole record of the bytes that came was visited
    -- `first` and `now` are the bytes that the input still has to give, where they are known
    pub record VisitsAll (first now : Option (List ℕ)) (v w : V) : Type 0 where
      pub came : List ℕ
      pub consumed : Consumes first now came
      pub to_end : IsAtEnd now ⊎ (2 ^ 64 - 1 ≤ length came)
      -- what the records hold, and what follows them
      pub held : List (List ℕ)
      pub rest : List ℕ
      pub passed : Passed came held rest
      pub cut_after : Cut rest
      pub visited : Rounds v held w

    -- a round with the bytes that wait broke off in the error e, and took the visitor from v to w
    pub data BreaksOff (waiting : List ℕ) (index : ℕ) (v : V) (e : E) (w : V) : Type 0 where
      before_visits : v ≡ w → BreaksOff waiting index v e w
      in_visit : VisitsUpTo waiting index v e w → BreaksOff waiting index v e w
      in_pause : (n used : ℕ) (walk : Walked waiting n used) (u : V) → VisitsEach v index walk.held u → pauses u (Err e) w → BreaksOff waiting index v e w

    -- an input was read, the first records of the bytes that came were visited in rounds, and then a round broke off in the error e
    pub record VisitsUntil (first now : Option (List ℕ)) (v : V) (e : E) (w : V) : Type 0 where
      pub came : List ℕ
      pub consumed : Consumes first now came
      pub held : List (List ℕ)
      pub waiting : List ℕ
      pub passed : Passed came held waiting
      pub at : V
      pub visited : Rounds v held at
      pub broken : BreaksOff waiting (length held % 2 ^ 64) at e w
