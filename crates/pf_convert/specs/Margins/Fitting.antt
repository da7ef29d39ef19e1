-- Tasks that fit over a base, and plans of which one number is changed.
use Rattle.std.specs.Prelude.{ℕ, ◌-◌, ◌*◌, ◌/◌, ◌≡◌, ◌≤◌, List, All, length, slice_index_or as get_or, set}
use Rattle.pf_weight.specs.declared.base.TheConstants.{LARGEST_BASE}
use Rattle.pf_weight.specs.declared.task.TheConstants.{LARGEST_TASK}
use Rattle.pf_convert.specs.declared.plan.Plan.{Plan}
use Rattle.pf_convert.specs.declared.slotted.Slotted.{Slotted}
use Rattle.pf_convert.specs.Multiples.{IsCommon}
use Rattle.pf_convert.specs.Rounding.{Holds, load_over}
use Rattle.pf_convert.specs.Slots.{IsSlotted}

-- the base holds these tasks, and they ask for no more than so many processors give
pub record FitOver (processors base : ℕ) (tasks : List Slotted) : Type 0 where
  pub holds : Holds base tasks
  pub enough : load_over base tasks ≤ processors * base

-- a plan over a base that each of its periods divides
pub record IsPlan (plan : Plan) : Type 0 where
  pub some : 1 ≤ plan.base
  pub within : plan.base ≤ LARGEST_BASE
  pub few : length plan.tasks.items ≤ LARGEST_TASK
  pub slotted : All IsSlotted plan.tasks.items
  pub common : IsCommon plan.tasks.items plan.base
  pub asks : plan.load ≡ load_over plan.base plan.tasks.items

-- what stands after the last task
abbrev pub no_task : Slotted
no_task = record { cost = 0; period = 0; join = 0; early = 0 }

-- the task at a place
abbrev pub task_at : Plan → ℕ → Slotted
task_at plan place = get_or plan.tasks.items place no_task

-- the tasks with another one at a place
abbrev pub with_task : Plan → ℕ → Slotted → List Slotted
with_task plan place task = set plan.tasks.items place task

-- what a task asks for, in units of 1/base
abbrev pub units_of : ℕ → Slotted → ℕ
units_of base t = t.cost * (base / t.period)

-- what the other tasks ask for together
abbrev pub units_beside : Plan → ℕ → ℕ
units_beside plan place = plan.load - units_of plan.base (task_at plan place)

-- what they leave of the processors
abbrev pub room_beside : ℕ → Plan → ℕ → ℕ
room_beside processors plan place = processors * plan.base - units_beside plan place
