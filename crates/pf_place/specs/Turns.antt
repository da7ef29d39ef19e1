-- What can be seated in a row, and what can stand before it.
use Rattle.std.specs.Prelude.{◌≡◌, ℕ, ◌≤◌, Option, List, length}
use Rattle.pf_order.specs.declared.pick.Pick.{Pick}
use Rattle.pf_place.specs.Occupancy.{sitters, NoTaskTwice}

-- these picks can be seated on the first `count` of m processors, each on one
pub record IsTurn (m count : ℕ) (picks : List Pick) : Type 0 where
  pub in_use : count ≤ m
  pub few : length picks ≤ count
  pub once : NoTaskTwice picks

-- a row of m processors in which no task sits twice
pub record IsRow (m : ℕ) (row : List (Option Pick)) : Type 0 where
  pub places : length row ≡ m
  pub once : NoTaskTwice (sitters row)
