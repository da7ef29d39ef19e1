-- How far each task is from its fair share.
use Rattle.std.specs.Prelude.{pos, ◌-ℤ◌, ◌*◌, List, length, map}
use Rattle.std.specs.declared.cmp.Ordering.{Ordering}
use Rattle.std.specs.Ordering.{nat_cmp, on}
use Rattle.pf_scenario.specs.Sorted.{sorted_by}
use Rattle.pf_scenario.specs.Scenario.{Plan}
use Rattle.pf_scenario.specs.declared.event.Numbered.{Numbered}
use Rattle.pf_run.specs.Record.{Slot, done}
use Rattle.pf_run.specs.Inside.{Joined, inside}
use Rattle.pf_run.specs.Run.{events_in_force}
use Rattle.pf_tally.specs.Clock.{clock_of}
use Rattle.pf_tally.specs.declared.lag.Lag.{Lag}

-- tasks go by number
abbrev pub task_cmp : Joined → Joined → Ordering
task_cmp = on (λ j. j.task) nat_cmp

-- these tasks in rising number
abbrev pub by_task : List Joined → List Joined
by_task = sorted_by task_cmp

-- the lag of a task after the slots r, where the events xs are in force: what its clock owes it, less what it
-- received, in units of one part of a quantum in its period
abbrev pub lag_of : List Slot → List Numbered → Joined → Lag
lag_of r xs j = record {
  task = j.task;
  cost = j.weight.cost;
  period = j.weight.period;
  received = done r j.task (length r);
  scaled = pos (j.weight.cost * clock_of r xs j (length r)) -ℤ pos (j.weight.period * done r j.task (length r));
}

-- the lags of the tasks inside after the record r of the scenario, by task number
unfoldable pub lags_of : Plan → List Slot → List Lag
lags_of s r = map (lag_of r (events_in_force s r (length r))) (by_task (inside s.settings.base (events_in_force s r (length r))))
