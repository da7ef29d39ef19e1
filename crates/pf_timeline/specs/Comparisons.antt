-- How many comparisons of keys a slot of a scenario's run may cost.
use Rattle.std.specs.Prelude.{ℕ, ◌+◌, length}
use Rattle.pf_scenario.specs.Scenario.{Plan, events_of}
use Rattle.pf_run.specs.Inside.{inside}
use Rattle.pf_run.specs.Run.{events_in_force}
use Rattle.pf_run.specs.Computed.{run_of}
use Rattle.pf_run.specs.RunRows.{count_in_last}
use Rattle.pf_engine.specs.Comparisons.{most_comparisons}

-- how many tasks are inside before the events of slot t
abbrev pub tasks_before : Plan → ℕ → ℕ
tasks_before s t = length (inside s.settings.base (events_in_force s (run_of s t) t))

-- how many processors are in use in slot t
abbrev pub processors_in : Plan → ℕ → ℕ
processors_in s t = count_in_last s (run_of s (t + 1))

-- the most comparisons of slot t of the scenario's run: with c processors in use in it, and with n tasks inside before its g
-- events, 4c + 2 + 4g for each binary digit of n + g
unfoldable pub most_comparisons_at : Plan → ℕ → ℕ
most_comparisons_at s t = most_comparisons (processors_in s t) (tasks_before s t) (length (events_of s t))
