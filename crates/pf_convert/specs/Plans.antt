-- Plans: tasks in slots over one base; how many processors a plan needs; and which of several quanta is the best.
use Rattle.std.specs.Prelude.{ℕ, ◌*◌, ◌≡◌, ◌≤◌, IsTrue, false, List, map}
use Rattle.pf_convert.specs.declared.plan.Plan.{Plan}
use Rattle.pf_convert.specs.declared.slotted.Slotted.{Slotted}
use Rattle.pf_convert.specs.Multiples.{IsLeastCommon, HasNoCommon}
use Rattle.pf_convert.specs.Rounding.{rounded, load_over, IsBestBase}

-- the task, its period rounded down to a divisor of the base
abbrev pub rounded_task : ℕ → Slotted → Slotted
rounded_task base t = record t { period = rounded base t.period }

-- each period is rounded down to a divisor of the base, which changes none where it divides it already
pub record IsOver (base : ℕ) (tasks : List Slotted) (plan : Plan) : Type 0 where
  pub at : plan.base ≡ base
  pub asks : plan.load ≡ load_over base tasks
  pub rounds : plan.tasks.items ≡ map (rounded_task base) tasks

-- the plan over the least common multiple of the periods, where that is a base
pub record IsExact (tasks : List Slotted) (plan : Plan) : Type 0 where
  pub exact : IsTrue plan.exact
  pub least : IsLeastCommon tasks plan.base
  pub over : IsOver plan.base tasks plan
  pub same : plan.tasks.items ≡ tasks

-- the plan over the best base, where no base is a common multiple of the periods
pub record IsRounded (tasks : List Slotted) (plan : Plan) : Type 0 where
  pub rounded : plan.exact ≡ false
  pub none : HasNoCommon tasks
  pub best : IsBestBase tasks (record { base = plan.base; load = plan.load })
  pub over : IsOver plan.base tasks plan

-- so many processors carry the load, and no fewer do; there is one at least
pub record IsNeeded (base load n : ℕ) : Type 0 where
  pub some : 1 ≤ n
  pub enough : load ≤ n * base
  pub least : (m : ℕ) → 1 ≤ m → load ≤ m * base → n ≤ m
