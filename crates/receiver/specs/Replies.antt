-- Replies: what the receiver's calls return, as a history tells it.
use Rattle.std.specs.Prelude.{◌≡◌, ℕ, ◌≤◌, List, ◌++◌, length, take, drop, Ok, Err, Result, codes}
use Rattle.wire.specs.Refusals.{fault_number}
use Rattle.wire.specs.declared.refusal.Refusal.{Refusal}
use Rattle.history.specs.Calls.{State, Reply, is_none, is_gathering, is_whole, is_spoiled, is_fetched, kept, repeated, completed, refused, delivered, told}
use Rattle.receiver.specs.declared.answers.Outcome.{Outcome}
use Rattle.receiver.specs.declared.answers.Outcome.TheVariants.{Kept, Repeated, Whole}
use Rattle.receiver.specs.declared.answers.IdState.{IdState}
use Rattle.receiver.specs.declared.answers.IdState.TheVariants as id
use Rattle.receiver.specs.declared.answers.Status.{Status}

abbrev pub refusal_reply : Refusal → Reply
refusal_reply e = refused (fault_number e.fault) e.place e.layer

abbrev pub outcome_reply : Outcome → Reply
outcome_reply Kept = kept
outcome_reply Repeated = repeated
outcome_reply Whole = completed

-- what an outcome is in print
abbrev pub outcome_name : Outcome → List ℕ
outcome_name Kept = codes "kept"
outcome_name Repeated = codes "repeated"
outcome_name Whole = codes "whole"

-- what an arrival is answered
abbrev pub arrival_reply : Result Outcome Refusal → Reply
arrival_reply (Ok o) = outcome_reply o
arrival_reply (Err e) = refusal_reply e

-- what a fetch is answered: with the bytes that it wrote at the start of the buffer, which now holds `new`
abbrev pub fetch_reply : Result ℕ Refusal → List ℕ → Reply
fetch_reply (Ok n) new = delivered (take n new)
fetch_reply (Err e) new = refusal_reply e

-- past what is handed out the buffer stays as it was, and where nothing is all of it
abbrev pub Handed : Result ℕ Refusal → List ℕ → List ℕ → Type 0
Handed (Ok n) was new = (n ≤ length was) × (new ≡ take n new ++ drop n was)
Handed (Err e) was new = new ≡ was

abbrev pub state_of : IdState → State
state_of id.None = is_none
state_of (id.Gathering heard lowest) = is_gathering heard lowest
state_of (id.Whole size) = is_whole size
state_of id.Spoiled = is_spoiled
state_of id.Fetched = is_fetched

abbrev pub status_reply : Status → Reply
status_reply s = told (state_of s.state) s.refused
