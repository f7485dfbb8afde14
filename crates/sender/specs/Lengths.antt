-- By which body lengths a message can be cut.
use Rattle.std.specs.Prelude.{◌≡◌, ℕ, ◌%◌, ◌≤◌}
use Rattle.sender.specs.Limits.{least_length, most_length, length_step}

pub record LawfulLength (n : ℕ) : Type 0 where
  pub at_least : least_length ≤ n
  pub at_most : n ≤ most_length
  pub in_steps : n % length_step ≡ 0
