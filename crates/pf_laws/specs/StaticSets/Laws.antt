-- The law of periodic tasks, the contract of a public function.
use Rattle.std.specs.Prelude.{◌≡◌, ℕ, ◌≤◌, Bool, true}
use Rattle.pf_laws.specs.StaticSets.Periodic.{Periodic, is_task_of, IsFeasible}
use Rattle.pf_laws.specs.StaticSets.Choice.{IsPD2, RunsInWindow}

-- PD2 is optimal: where the weights come to no more than the processors, each subtask of each task runs in its window.
abbrev pub EachRunsInItsWindow : Type 0
EachRunsInItsWindow = (p : Periodic) (runs : ℕ → ℕ → Bool) (t i : ℕ) → IsFeasible p → IsPD2 p runs →
    is_task_of p t ≡ true → 1 ≤ i → RunsInWindow p runs t i
