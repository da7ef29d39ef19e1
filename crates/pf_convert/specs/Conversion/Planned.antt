-- What a quantum gives the tasks of a list.
use Rattle.std.specs.Prelude.{⊤, ℕ, ◌≡◌, ◌<◌, ◌≤◌, ◌⊎◌, Option, None, Some, MatchOption, List, [], ◌∷◌, All, length}
use Rattle.pf_convert.specs.declared.divided.Divided.{Divided}
use Rattle.pf_convert.specs.declared.plan.Plan.{Plan}
use Rattle.pf_convert.specs.declared.quantum.Quantum.{Quantum}
use Rattle.pf_convert.specs.declared.slotted.Slotted.{Slotted}
use Rattle.pf_convert.specs.Multiples.{HasNoCommon}
use Rattle.pf_convert.specs.Plans.{IsExact, IsRounded, IsNeeded}
use Rattle.pf_convert.specs.Rounding.{HasNoBase}
use Rattle.pf_convert.specs.Slots.{IsSlotted}
use Rattle.pf_weight.specs.declared.base.TheConstants.{LARGEST_BASE}
use Rattle.pf_convert.specs.declared.plan_fault.PlanFault.{PlanFault}
use Rattle.pf_convert.specs.declared.plan_fault.PlanFault.TheVariants.{NoBase}
use Rattle.pf_convert.specs.declared.words.arrivals.Arrivals.{Arrivals}
use Rattle.pf_convert.specs.Smooth.{AreSmoothBases}
use Rattle.pf_convert.specs.declared.list.listed.Listed.{Listed}
use Rattle.pf_convert.specs.declared.conversion.planned.Planned.{Planned}
use Rattle.pf_convert.specs.Conversion.Slots.{slot_faults, slots_in}

-- the plan of these tasks is over the least common multiple of their periods, or where there is none over the best base that
-- holds them; there is none where no base does
abbrev pub IsPlanned : List Slotted → Option Plan → Type 0
IsPlanned tasks plan = MatchOption plan (HasNoCommon tasks × HasNoBase tasks) (λ p. IsExact tasks p ⊎ IsRounded tasks p)

-- the base of a plan is within its limits, and its tasks are in slots
pub record HoldsTasks (p : Plan) : Type 0 where
  pub some : 1 ≤ p.base
  pub within : p.base ≤ LARGEST_BASE
  pub slotted : All IsSlotted p.tasks.items

abbrev pub HoldsPlan : Option Plan → Type 0
HoldsPlan plan = MatchOption plan ⊤ HoldsTasks

-- so many processors are needed, and none where there is no plan
abbrev pub NeedsFor : Option Plan → Option ℕ → Type 0
NeedsFor None needed = needed ≡ None
NeedsFor (Some plan) needed = MatchOption needed ⊥ (IsNeeded plan.base plan.load)

-- where there are some yet, they are the bases without a prime factor above 7
abbrev pub AreBasesOrNone : List Divided → Type 0
AreBasesOrNone bases = 0 < length bases → AreSmoothBases bases

-- the fault of a plan that there is not
abbrev pub plan_faults : Option Plan → List PlanFault
plan_faults None = NoBase ∷ []
plan_faults (Some plan) = []

-- what a quantum gives tasks that have these slots
pub record IsPlannedOf (q : Quantum) (tasks : List Slotted) (p : Planned) : Type 0 where
  pub quantum : p.quantum ≡ q
  pub planned : IsPlanned tasks p.plan
  pub needs : NeedsFor p.plan p.needed
  pub lacks : p.faults.items ≡ plan_faults p.plan

-- what it gives where tasks have none
pub record HasNoPlan (q : Quantum) (faults : List PlanFault) (p : Planned) : Type 0 where
  pub quantum : p.quantum ≡ q
  pub planned : p.plan ≡ None
  pub needs : p.needed ≡ None
  pub lacks : p.faults.items ≡ faults

abbrev pub IsPlannedWith : Quantum → List Slotted → List PlanFault → Planned → Type 0
IsPlannedWith q slots [] p = IsPlannedOf q slots p
IsPlannedWith q slots (fault ∷ faults) p = HasNoPlan q (fault ∷ faults) p

-- what a quantum gives these tasks, where their jobs arrive so
abbrev pub IsPlannedAt : Quantum → Arrivals → List Listed → Planned → Type 0
IsPlannedAt q arrivals tasks p = IsPlannedWith q (slots_in q arrivals tasks) (slot_faults q arrivals tasks) p
