-- What holds of every engine.
use Rattle.std.specs.Prelude.{◌≡◌, ℕ, ◌^◌, ◌<◌, ◌≤◌, ◌==◌, Ok, List, length, sum_by, count_by, All}
use Rattle.pf_weight.specs.Weighed.{share_or_fault}
use Rattle.pf_weight.specs.declared.task.TheConstants.{LARGEST_TASK}
use Rattle.pf_scenario.specs.System.{IsSystem}
use Rattle.pf_scenario.specs.declared.limits.TheConstants.{MOST_EARLY}
use Rattle.pf_scenario.specs.declared.scenario.TheConstants.{MOST_EVENTS}
use Rattle.pf_scenario.specs.declared.settings.TheConstants.{WIDE_HORIZON}
use Rattle.pf_admit.specs.Member.{IsMember}
use Rattle.pf_engine.specs.Fits.{KeptTask, Kept}

-- how many of the tasks have this number
abbrev pub tasks_of : ℕ → List KeptTask → ℕ
tasks_of task tasks = count_by (λ k. k.task == task) tasks

-- a task inside has its numbers within their limits
pub record IsInside (k : KeptTask) : Type 0 where
  pub task_some : 1 ≤ k.task
  pub task_within : k.task ≤ LARGEST_TASK
  pub member : IsMember k.member
  pub joined : k.member.joined < WIDE_HORIZON
  pub early : k.member.early ≤ MOST_EARLY

-- its weight is that of its cost and period over this base
abbrev pub IsWeighedOver : ℕ → KeptTask → Type 0
IsWeighedOver base k = share_or_fault base k.member.weight.cost k.member.weight.period ≡ Ok k.member.weight

-- the invariant of an engine, of what it keeps: its settings are a system, it took no slot beyond the horizon, the tasks
-- inside are weighed over its base, there are no more than events of a scenario, no two have one number, the load is the
-- sum of their units, all numbers are small enough to be added, and no more processors are in use than there are
pub record IsEngine (e : Kept) : Type 0 where
  pub settings : IsSystem e.settings
  pub now : e.now ≤ e.settings.horizon
  pub tasks : All IsInside e.tasks
  pub weights : All (IsWeighedOver e.settings.base) e.tasks
  pub few : length e.tasks ≤ MOST_EVENTS
  pub apart : (task : ℕ) → tasks_of task e.tasks ≤ 1
  pub load : e.load ≡ sum_by (λ k. k.member.weight.units) e.tasks
  pub load_within : e.load ≤ 2 ^ 46
  pub count : e.count ≤ e.settings.processors
