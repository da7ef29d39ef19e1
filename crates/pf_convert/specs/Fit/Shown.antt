-- What is shown of a plan and its margins.
use Rattle.std.specs.Prelude.{ℕ, ◌+◌, ◌*◌, ◌-◌, ◌≤◌, ◌≡◌, Bool, nat_le, Option, None, Some, option_map, List, [], ◌∷◌, All}
use Rattle.pf_weight.specs.declared.base.TheConstants.{LARGEST_BASE}
use Rattle.pf_convert.specs.declared.fit.shown.Shown.{Shown}
use Rattle.pf_convert.specs.declared.fit.shown_task.ShownTask.{ShownTask}
use Rattle.pf_convert.specs.declared.words.arrivals.Arrivals.{Arrivals}
use Rattle.pf_convert.specs.declared.words.arrivals.Arrivals.TheVariants.{Aligned, Any}
use Rattle.pf_convert.specs.Margins.Fitting.{IsPlan}
use Rattle.pf_convert.specs.Margins.Periods.{slots_of}
use Rattle.pf_convert.specs.Margins.Times.{time_of}
use Rattle.pf_convert.specs.Plans.{IsNeeded}
use Rattle.pf_convert.specs.Slots.{IsQuantum, IsSlotted, IsTimed}

-- a task in time and in slots
pub record IsShownTask (t : ShownTask) : Type 0 where
  pub timed : IsTimed t.times
  pub slotted : IsSlotted t.slots
  pub within : t.slots.period ≤ LARGEST_BASE

-- a plan with what is shown of it
pub record IsShown (s : Shown) : Type 0 where
  pub few : s.processors ≤ 64
  pub quantum : IsQuantum s.quantum
  pub plan : IsPlan s.plan.now
  pub needed : IsNeeded s.plan.now.base s.plan.now.load s.margins.now.processors
  pub tasks : All IsShownTask s.tasks.now

-- the processors are enough
abbrev pub is_fit : Shown → Bool
is_fit s = nat_le s.margins.now.processors s.processors

-- what they give, in units of 1/base
abbrev pub room_of : Shown → ℕ
room_of s = s.processors * s.plan.now.base

-- within how long a job of a task is done: of its release, or of its arrival where jobs come at any time
abbrev pub response_of : Shown → ShownTask → ℕ
response_of s t = time_of s.terms.arrivals s.quantum.length t.slots.period

-- within how long of any arrival
abbrev pub any_response_of : Shown → ShownTask → ℕ
any_response_of s t = (t.slots.period + 1) * s.quantum.length

-- the least time of a task
abbrev pub least_time_of : Shown → ShownTask → Option ℕ
least_time_of s t = option_map (time_of s.terms.arrivals s.quantum.length) (slots_of t.margin.least)
