-- A new receiver.
use Rattle.std.proofs.Common.{◌≡◌, ℕ, ◌<◌, false, length, sym, refl, ◌∙◌, inl}
use Rattle.std.proofs.lemmas.Bool.{true≢false}
use Rattle.wire.specs.Limits.{max_slots}
use Rattle.shelf.specs.Units.{Tidy}
use Rattle.history.specs.Calls.{none_yet}
use Rattle.receiver.specs.Slots.{Bare, used, at}
use Rattle.receiver.specs.Tables.{Seen, Explains}

-- with all slots free and nothing on the shelf, nothing has happened yet
pub nothing_yet : (s : Seen) → 0 < s.terms.patience → Tidy s.terms.unit s.terms.capacity s.piece → length s.slots ≡ max_slots
    → ((k : ℕ) → k < max_slots → used (at s.slots k) ≡ false) → ((k : ℕ) → k < max_slots → Bare (s.piece k)) → s.refused ≡ 0 → Explains none_yet s
nothing_yet s patient tidy long free bare none = record {
  patient = patient;
  tidy = tidy;
  all_slots = long;
  seats = λ k lt. inl (free k lt, bare k lt);
  apart = λ j k id lj lk bj bk. absurd (true≢false (sym bj.0 ∙ free j lj));
  absent = λ id _. refl;
  count = none;
}
