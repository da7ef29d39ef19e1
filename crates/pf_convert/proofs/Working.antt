-- The tasks' work in billionths, task by task.
use Rattle.std.proofs.Common.{◌≡◌, ℕ, ◌*◌, ◌^◌, ◌≤◌, List, take}
use Rattle.pf_convert.specs.declared.timed.Timed.{Timed}
use Rattle.pf_convert.specs.Outcomes.{billionths_of, least_billionths_of}

-- the work of the first tasks
pub record IsWorkSoFar (tasks : List Timed) (i w : ℕ) : Type 0 where
  pub work : w ≡ billionths_of (take i tasks)
  pub small : w ≤ i * 10 ^ 27

-- the same, each rounded down
pub record IsLeastWorkSoFar (tasks : List Timed) (i w : ℕ) : Type 0 where
  pub work : w ≡ least_billionths_of (take i tasks)
  pub small : w ≤ i * 10 ^ 27
