-- What tasks ask for with one of them changed.
use Rattle.std.proofs.Common.{◌≡◌, ℕ, ◌+◌, ◌-◌, ◌*◌, ◌/◌, ◌%◌, ◌<◌, ◌≤◌, List, length, get_or, set, sym, ap, subst, arith}
use Rattle.std.specs.Prelude.{All}
use Rattle.std.proofs.Math.Nat.{mul-le-mul}
use Rattle.std.proofs.lemmas.List.{length-set, get_or-set_same}
use Rattle.std.proofs.lemmas.List.Elements.{All-set, All-weaker}
use Rattle.std.proofs.lemmas.List.Sums.{sum_by-set, get_or-le-sum_by}
use Rattle.pf_weight.specs.declared.base.TheConstants.{LARGEST_BASE}
use Rattle.pf_convert.specs.declared.plan.Plan.{Plan}
use Rattle.pf_convert.specs.declared.slotted.Slotted.{Slotted}
use Rattle.pf_convert.specs.Margins.Fitting.{IsPlan, task_at, units_of}
use Rattle.pf_convert.specs.Multiples.{IsCommon}
use Rattle.pf_convert.specs.Rounding.{Holds, load_over, rounded}
use Rattle.pf_convert.specs.Slots.{IsSlotted}
use Rattle.pf_convert.proofs.Division.{multiple_is_no_less, quotient_of, some_factor}
use Rattle.pf_convert.proofs.Planned.{divisor_stays}
use Rattle.pf_convert.proofs.Rounding.{units_over, few_units}

pub processors_within : (processors base : ℕ) → processors ≤ 64 → base ≤ LARGEST_BASE → processors * base ≤ 68719476736
processors_within processors base few within =
    omega (arith, mul-le-mul {n₁ = processors} {m₁ = base} {n₂ = 64} {m₂ = LARGEST_BASE} few within)

-- what a task of a plan is over its base
pub record IsPart (plan : Plan) (t : Slotted) : Type 0 where
  pub slotted : IsSlotted t
  pub divides : plan.base % t.period ≡ 0
  pub comes : 1 ≤ t.period
  pub within : t.period ≤ plan.base
  pub turns : 1 ≤ plan.base / t.period
  pub product : plan.base ≡ t.period * (plan.base / t.period)
  pub stays : t.period ≡ rounded plan.base t.period
  pub units : units_of plan.base t ≡ units_over plan.base t
  pub few : units_of plan.base t ≤ LARGEST_BASE

part_of : (plan : Plan) (t : Slotted) → IsPlan plan → IsSlotted t → plan.base % t.period ≡ 0 → IsPart plan t
part_of plan t p s e =
    let comes : 1 ≤ t.period = omega (arith, s.some, s.within) in
    let product : plan.base ≡ t.period * (plan.base / t.period) = quotient_of plan.base t.period e in
    let stays : t.period ≡ rounded plan.base t.period = divisor_stays plan.base t.period comes e in
    record {
      slotted = s;
      divides = e;
      comes = comes;
      within = multiple_is_no_less plan.base t.period p.some e;
      turns = some_factor plan.base t.period (plan.base / t.period) p.some product;
      product = product;
      stays = stays;
      units = ap (λ p. t.cost * (plan.base / p)) stays;
      few = few_units plan.base t.cost t.period p.within s.within;
    }

pub part_at : (plan : Plan) (place : ℕ) (d : Slotted) → IsPlan plan → place < length plan.tasks.items → IsPart plan (get_or plan.tasks.items place d)
part_at plan place d p lt = part_of plan (get_or plan.tasks.items place d) p (p.slotted place d lt) (p.common place d lt)

-- a task asks for no more than all of them
pub record IsInLoad (plan : Plan) (t : Slotted) : Type 0 where
  pub part : IsPart plan t
  pub within : units_of plan.base t ≤ plan.load

pub task_units : (plan : Plan) (place : ℕ) (d : Slotted) → IsPlan plan → place < length plan.tasks.items → IsInLoad plan (get_or plan.tasks.items place d)
task_units plan place d p lt =
    let part = part_at plan place d p lt in
    record {
      part = part;
      within = omega (arith, part.units, get_or-le-sum_by (units_over plan.base) plan.tasks.items place d lt, p.asks);
    }

-- a plan's base holds its tasks
pub plan_holds : (plan : Plan) → IsPlan plan → Holds plan.base plan.tasks.items
plan_holds plan p place d lt =
    let part = part_at plan place d p lt in
    subst (λ v. (get_or plan.tasks.items place d).cost ≤ v) part.stays part.slotted.within

-- the load with another task at a place
pub load_with : (base : ℕ) (tasks : List Slotted) (place : ℕ) (t d : Slotted) → place < length tasks
    → load_over base (set tasks place t) + units_over base (get_or tasks place d) ≡ load_over base tasks + units_over base t
load_with base tasks place t d lt = sum_by-set (units_over base) tasks place t d lt

pub holds_with : (base : ℕ) (tasks : List Slotted) (place : ℕ) (t : Slotted) → t.cost ≤ rounded base t.period → Holds base tasks → Holds base (set tasks place t)
holds_with base tasks place t fits holds = All-set (λ (s : Slotted). s.cost ≤ rounded base s.period) tasks place t fits holds

pub holds_at : (base : ℕ) (tasks : List Slotted) (place : ℕ) (t : Slotted) → place < length tasks → Holds base (set tasks place t) → t.cost ≤ rounded base t.period
holds_at base tasks place t lt holds =
    subst (λ (s : Slotted). s.cost ≤ rounded base s.period) (get_or-set_same tasks place t t lt)
    (holds place t (omega (arith, length-set tasks place t, lt)))
