-- How many slots a meter counted.
use Rattle.std.specs.Prelude.{ℕ, ◌+◌, ◌≤◌}
use Rattle.pf_order.specs.Counts.{Counts}

-- at most n slots more: the counter of slots rises by no more than n (one at its greatest value stays there) and never
-- falls
pub record CountsAtMost (n : ℕ) (old new : Counts) : Type 0 where
  pub never_falls : old.slots ≤ new.slots
  pub at_most : new.slots ≤ old.slots + n
