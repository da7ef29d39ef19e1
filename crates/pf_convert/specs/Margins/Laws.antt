-- What margins are worth, put in place of the numbers, whatever base the new plan is made over.
use Rattle.std.specs.Prelude.{ℕ, ◌-◌, ◌*◌, ◌<◌, ◌≤◌, ◌≡◌, ◌⊎◌, Option, MatchOption, List, All, length, slice_index_or as get_or, set}
use Rattle.std.specs.Int.{div_ceil}
use Rattle.pf_convert.specs.declared.plan.Plan.{Plan}
use Rattle.pf_convert.specs.declared.quantum.Quantum.{Quantum}
use Rattle.pf_convert.specs.declared.slotted.Slotted.{Slotted}
use Rattle.pf_convert.specs.declared.timed.Timed.{Timed}
use Rattle.pf_convert.specs.Conversion.Planned.{IsPlanned}
use Rattle.pf_convert.specs.Margins.Fitting.{no_task}
use Rattle.pf_convert.specs.Margins.Periods.{HaveBase, IsLeastDivisor, IsLeastPeriod, with_period}
use Rattle.pf_convert.specs.Margins.Switches.{IsMostSwitch, with_costs}
use Rattle.pf_convert.specs.Margins.Works.{IsMostWork, with_cost}
use Rattle.pf_convert.specs.Plans.{IsExact, IsRounded}
use Rattle.pf_convert.specs.Slots.{IsQuantum, IsSlotted}

-- it is a plan of these tasks
abbrev pub IsPlanFor : List Slotted → Plan → Type 0
IsPlanFor tasks plan = IsExact tasks plan ⊎ IsRounded tasks plan

-- so many processors carry its load
abbrev pub IsServed : ℕ → Plan → Type 0
IsServed processors plan = plan.load ≤ processors * plan.base

-- there is a plan, and they carry it
abbrev pub HasServedPlan : ℕ → Option Plan → Type 0
HasServedPlan processors plan = MatchOption plan ⊥ (IsServed processors)

-- the tasks with another work of the jobs of the one at a place
abbrev pub with_work : Quantum → List Slotted → ℕ → ℕ → List Slotted
with_work q tasks place work = set tasks place (with_cost (get_or tasks place no_task) (div_ceil work (q.length - q.switch)))

-- the tasks with another period of it
abbrev pub with_slots : List Slotted → ℕ → ℕ → List Slotted
with_slots tasks place period = set tasks place (with_period (get_or tasks place no_task) period)

-- tasks in slots, and their plan
pub record IsPlanOf (tasks : List Slotted) (plan : Plan) : Type 0 where
  pub slotted : All IsSlotted tasks
  pub planned : IsPlanFor tasks plan

-- with the most work in place of its own each plan of the tasks is served
abbrev pub MostWorkIsServed : Type 0
MostWorkIsServed =
    (processors : ℕ) (q : Quantum) (tasks : List Slotted) (plan : Plan) (place work : ℕ) (changed : Option Plan) → IsQuantum q → IsPlanOf tasks plan → place < length tasks
    → IsMostWork processors q plan place work → IsPlanned (with_work q tasks place work) changed → HasServedPlan processors changed

-- with the least period too, where there is a base for it
abbrev pub LeastPeriodIsServed : Type 0
LeastPeriodIsServed =
    (processors : ℕ) (tasks : List Slotted) (plan : Plan) (place period : ℕ) (changed : Option Plan) → All IsSlotted tasks → IsExact tasks plan → place < length tasks
    → IsLeastPeriod processors plan place period → HaveBase plan.base period → IsPlanned (with_slots tasks place period) changed → HasServedPlan processors changed

-- and with the least divisor of the base
abbrev pub LeastDivisorIsServed : Type 0
LeastDivisorIsServed =
    (processors : ℕ) (tasks : List Slotted) (plan : Plan) (place period : ℕ) (changed : Option Plan) → IsPlanOf tasks plan → place < length tasks
    → IsLeastDivisor processors plan place period → IsPlanned (with_slots tasks place period) changed → HasServedPlan processors changed

-- with the longest switch too
abbrev pub MostSwitchIsServed : Type 0
MostSwitchIsServed =
    (processors quantum switch : ℕ) (times : List Timed) (tasks : List Slotted) (plan : Plan) (changed : Option Plan) → IsPlanOf tasks plan
    → length times ≡ length tasks → All IsSlotted (with_costs (quantum - switch) times tasks) → IsMostSwitch processors quantum times plan switch
    → IsPlanned (with_costs (quantum - switch) times tasks) changed → HasServedPlan processors changed

-- where the base is the least common multiple, no plan is served with more work
abbrev pub MoreWorkIsUnserved : Type 0
MoreWorkIsUnserved =
    (processors : ℕ) (q : Quantum) (tasks : List Slotted) (plan : Plan) (place work more : ℕ) (changed : Plan) → All IsSlotted tasks → IsExact tasks plan
    → place < length tasks → IsMostWork processors q plan place work → work < more → All IsSlotted (with_work q tasks place more)
    → IsPlanFor (with_work q tasks place more) changed → processors * changed.base < changed.load

-- nor with a lower period
abbrev pub LowerPeriodIsUnserved : Type 0
LowerPeriodIsUnserved =
    (processors : ℕ) (tasks : List Slotted) (plan : Plan) (place period lower : ℕ) (changed : Plan) → All IsSlotted tasks → IsExact tasks plan
    → place < length tasks → IsLeastPeriod processors plan place period → lower < period → All IsSlotted (with_slots tasks place lower)
    → IsPlanFor (with_slots tasks place lower) changed → processors * changed.base < changed.load

-- nor with a longer switch
abbrev pub LongerSwitchIsUnserved : Type 0
LongerSwitchIsUnserved =
    (processors quantum switch longer : ℕ) (times : List Timed) (tasks : List Slotted) (plan changed : Plan) → All IsSlotted tasks → IsExact tasks plan
    → length times ≡ length tasks → IsMostSwitch processors quantum times plan switch → switch < longer → longer < quantum
    → All IsSlotted (with_costs (quantum - longer) times tasks) → IsPlanFor (with_costs (quantum - longer) times tasks) changed
    → processors * changed.base < changed.load
