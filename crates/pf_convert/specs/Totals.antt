-- What the first of some tasks cost together.
use Rattle.std.specs.Prelude.{ℕ, ◌+◌, ◌≡◌, ◌≤◌, ◌↔◌, List, All, length, take, sum_by}
use Rattle.std.specs.List.{slice_index_or}
use Rattle.pf_convert.specs.declared.slotted.Slotted.{Slotted}
use Rattle.pf_convert.specs.declared.total.Total.{Total}

-- the sum of these tasks' costs, and the least number that none of them is above
pub record IsTotal (tasks : List Slotted) (total : Total) : Type 0 where
  pub cost : total.cost ≡ sum_by (λ t. t.cost) tasks
  pub greatest : (m : ℕ) → All (λ t. t.cost ≤ m) tasks ↔ (total.greatest ≤ m)

-- at each number stands the total of so many of the first tasks
pub record AreTotals (tasks : List Slotted) (totals : List Total) : Type 0 where
  pub many : length totals ≡ length tasks + 1
  pub at : (k : ℕ) (d : Total) → k ≤ length tasks → IsTotal (take k tasks) (slice_index_or totals k d)
