-- Worked examples: three slots in which deadlines tie, one for each tie of PD2.
use Rattle.std.specs.Prelude.{◌≡◌, ℕ, [], ◌∷◌}
use Rattle.pf_scenario.specs.Scenario.{Plan}
use Rattle.pf_scenario.specs.declared.event.Event.TheVariants.{Join}
use Rattle.pf_run.specs.Computed.{run_of}
use Rattle.pf_run.specs.Examples.{plan_with}
use Rattle.pf_why.specs.declared.subtask.Subtask.{Subtask}
use Rattle.pf_why.specs.declared.rule.Rule.TheVariants.{Bit, Group, Task}
use Rattle.pf_why.specs.Point.{point_of}
use Rattle.pf_why.specs.Ranking.{ranking_in}
use Rattle.pf_why.specs.Rule.{rule_of}

-- a subtask of a task that runs nothing early and joined in slot 0: its release, deadline, bit and group deadline
abbrev pub subtask : ℕ → ℕ → ℕ → ℕ → ℕ → ℕ → Subtask
subtask task i release deadline bit group =
    record { task = task; sub = i; release = release; deadline = deadline; bit = bit; group = group; first = release }

-- six tasks on two processors, the last of which the cap keeps out (examples/from-milliseconds-try.csv)
abbrev pub six_tasks : Plan
six_tasks =
    plan_with 2 24 48 (Join 0 1 1 4 0 ∷ Join 0 2 3 6 0 ∷ Join 0 3 14 24 0 ∷ Join 0 4 2 12 0 ∷ Join 0 5 1 2 0 ∷ Join 0 6 1 24 0 ∷ [])

-- four tasks on two processors (examples/video-and-control.csv)
abbrev pub four_tasks : Plan
four_tasks = plan_with 2 60 120 (Join 0 1 5 12 0 ∷ Join 0 2 1 4 0 ∷ Join 0 3 1 2 0 ∷ Join 0 4 2 3 0 ∷ [])

pub record WorkedRankings : Type 0 where
  -- slot 3 of the six: 3/3 before 4/1, since its window and the next one share a slot
  pub by_bit : ranking_in six_tasks (run_of six_tasks 4) 3 ≡
      subtask 5 2 2 4 0 4 ∷ subtask 3 3 3 6 1 8 ∷ subtask 4 1 0 6 0 0 ∷ []
  pub bit : rule_of (subtask 3 3 3 6 1 8) (subtask 4 1 0 6 0 0) ≡ Bit
  -- slot 3 of the four: 4/3 before 1/2, since it belongs to a heavy task, and what it does not get now it has to get at once
  pub by_group : ranking_in four_tasks (run_of four_tasks 4) 3 ≡ subtask 4 3 3 5 1 6 ∷ subtask 1 2 2 5 1 0 ∷ []
  pub group : rule_of (subtask 4 3 3 5 1 6) (subtask 1 2 2 5 1 0) ≡ Group
  -- slot 2 of the six: 1/1, 2/2 and 5/2 tie in all that PD2 looks at, and go by their tasks' numbers
  pub by_task : ranking_in six_tasks (run_of six_tasks 4) 2 ≡
      subtask 1 1 0 4 0 0 ∷ subtask 2 2 2 4 0 4 ∷ subtask 5 2 2 4 0 4 ∷ subtask 4 1 0 6 0 0 ∷ []
  pub task : rule_of (subtask 2 2 2 4 0 4) (subtask 5 2 2 4 0 4) ≡ Task
  -- what the six ask for of the two processors in use
  pub point : point_of six_tasks 4 3 ≡ record { slot = 3; now = 4; count = 2; processors = 2; base = 24; load = 48; room = 48 }
