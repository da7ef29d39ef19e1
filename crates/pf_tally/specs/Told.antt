-- Worked examples of figures.
use Rattle.std.specs.Prelude.{◌≡◌, ℕ, ℤ, pos, negsuc, Option, None, Some, List, [], ◌∷◌}
use Rattle.pf_scenario.specs.Scenario.{Plan}
use Rattle.pf_scenario.specs.declared.event.Event.TheVariants.{Join, Leave, Delay}
use Rattle.pf_run.specs.Computed.{run_of}
use Rattle.pf_run.specs.Examples.{plan_with, two_joins, three_joins}
use Rattle.pf_run.specs.RunRows.{rows_in}
use Rattle.pf_tally.specs.Figures.{figures_of}
use Rattle.pf_tally.specs.declared.extremes.Extremes.{Extremes}
use Rattle.pf_tally.specs.declared.figures.Figures.{Figures}

abbrev pub extremes : ℤ → ℤ → Extremes
extremes least greatest = record { least = least; greatest = greatest }

-- the figures of a task of this weight: its quanta, migrations, preemptions and jobs, their responses, its missed windows
-- and the greatest tardiness, its lags
abbrev pub figures : ℕ → ℕ → ℕ → ℕ → ℕ → ℕ → ℕ → Option Extremes → ℕ → ℕ → Extremes → Figures
figures task cost period quanta migrations preemptions jobs response missed tardiness lag = record {
  task = task;
  cost = cost;
  period = period;
  quanta = quanta;
  migrations = migrations;
  preemptions = preemptions;
  jobs = jobs;
  response = response;
  missed = missed;
  tardiness = tardiness;
  lag = lag;
}

-- the figures after n slots of the scenario
abbrev pub AreTold : Plan → ℕ → List Figures → Type 0
AreTold s n told = figures_of s (run_of s n) (rows_in s n) ≡ told

pub record WorkedFigures : Type 0 where
  -- task 2 moves and pauses, task 3 begins a slot after its release
  pub three_tasks : AreTold (plan_with 2 3 6 three_joins) 3
      (figures 1 2 3 2 0 0 1 (Some (extremes (pos 2) (pos 2))) 0 0 (extremes (negsuc 1) (pos 0))
      ∷ figures 2 2 3 2 1 1 1 (Some (extremes (pos 3) (pos 3))) 0 0 (extremes (negsuc 0) (pos 1))
      ∷ figures 3 2 3 2 0 0 1 (Some (extremes (pos 3) (pos 3))) 0 0 (extremes (pos 0) (pos 2))
      ∷ [])
  -- more is asked for than there is: subtasks run late
  pub overload : AreTold (plan_with 1 1 2 two_joins) 4
      (figures 1 1 1 2 0 0 2 (Some (extremes (pos 1) (pos 2))) 3 1 (extremes (pos 0) (pos 2))
      ∷ figures 2 1 1 2 0 0 2 (Some (extremes (pos 2) (pos 3))) 4 2 (extremes (pos 0) (pos 2))
      ∷ [])
  -- jobs that are done before their release
  pub early : AreTold (plan_with 1 4 4 (Join 0 1 1 4 4 ∷ [])) 9
      (figures 1 1 4 4 0 0 4 (Some (extremes (negsuc 2) (pos 1))) 0 0 (extremes (negsuc 6) (pos 0)) ∷ [])
  -- a delay moves releases, and stops the clock
  pub delay : AreTold (plan_with 1 2 2 (Join 0 1 1 2 0 ∷ Delay 2 1 3 ∷ [])) 6
      (figures 1 1 2 2 0 0 2 (Some (extremes (pos 1) (pos 1))) 0 0 (extremes (negsuc 0) (pos 0)) ∷ [])
  -- no job is done, and a window is missed
  pub missed : AreTold (plan_with 1 2 4 (Join 0 1 1 1 0 ∷ Join 0 2 1 2 0 ∷ Delay 1 2 1 ∷ [])) 2
      (figures 1 1 1 2 0 0 2 (Some (extremes (pos 1) (pos 1))) 0 0 (extremes (pos 0) (pos 0))
      ∷ figures 2 1 2 0 0 0 0 None 1 0 (extremes (pos 0) (pos 2)) ∷ [])
  -- a task that left in slot 5
  pub left : AreTold (plan_with 1 11 11 (Join 0 1 8 11 0 ∷ Delay 1 1 10 ∷ Leave 5 1 ∷ [])) 6
      (figures 1 8 11 1 0 0 0 None 0 0 (extremes (negsuc 2) (pos 0)) ∷ [])
