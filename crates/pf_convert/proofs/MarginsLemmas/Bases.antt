-- Tasks that fit over one base fit over others: over each common multiple of their periods, and over the base of their plan.
use Rattle.std.proofs.Common.{◌≡◌, ℕ, zero, suc, ◌+◌, ◌-◌, ◌*◌, ◌/◌, ◌%◌, ◌<◌, ◌≤◌, ◌⊎◌, inl, inr, List, [], ◌∷◌, map, length, get_or, set, Option, None, Some, MatchOption, refl, sym, ◌∙◌, ap, subst, arith}
use Rattle.std.specs.List.{sum_by}
use Rattle.std.specs.Prelude.{All}
use Rattle.std.proofs.Math.Nat.{mul-le-mul, le_of_mul-le-mul_right, mul-mod_right}
use Rattle.std.proofs.lemmas.Bool.{cases_lt}
use Rattle.std.proofs.lemmas.List.{get_or-map, length-map}
use Rattle.std.proofs.lemmas.List.Elements.{All-head, All-tail}
use Rattle.std.proofs.lemmas.List.Sums.{sum_by-cons}
use Rattle.pf_weight.specs.declared.base.TheConstants.{LARGEST_BASE}
use Rattle.pf_convert.specs.declared.plan.Plan.{Plan}
use Rattle.pf_convert.specs.declared.slotted.Slotted.{Slotted}
use Rattle.pf_convert.specs.Conversion.Planned.{IsPlanned}
use Rattle.pf_convert.specs.Margins.Fitting.{FitOver}
use Rattle.pf_convert.specs.Margins.Laws.{HasServedPlan, IsPlanFor, IsServed}
use Rattle.pf_convert.specs.Multiples.{IsCommon}
use Rattle.pf_convert.specs.Plans.{IsExact, IsRounded, rounded_task}
use Rattle.pf_convert.specs.Rounding.{Holds, load_over, rounded, IsNoWorse}
use Rattle.pf_convert.specs.Slots.{IsSlotted}
use Rattle.pf_convert.specs.Smooth.{IsSevenSmooth}
use Rattle.pf_convert.proofs.Dividing.{IsGreatest, rounded_is}
use Rattle.pf_convert.proofs.Division.{quotient_of}
use Rattle.pf_convert.proofs.Planned.{divisor_stays}
use Rattle.pf_convert.proofs.Rounding.{units_over, le_over}
use Rattle.pf_convert.proofs.ConversionLemmas.Bases.{smooth_some}

-- a task's period is some, and it is no less when it is rounded
pub some_period : (t : Slotted) → IsSlotted t → 1 ≤ t.period
some_period t s = omega (arith, s.some, s.within)

crossed : (cost a k r p : ℕ) → r ≤ p → cost * a * (r * k) ≤ cost * k * (p * a)
crossed cost a k r p le =
    let both : cost * a * k * r ≤ cost * a * k * p = mul-le-mul {n₁ = cost * a * k} {m₁ = r} {n₂ = cost * a * k} {m₂ = p} (omega arith) le in
    omega (arith, both)

units_crossed : (n b : ℕ) (t : Slotted) → IsSlotted t → n % t.period ≡ 0 → units_over n t * b ≤ units_over b t * n
units_crossed n b t s e =
    let some : 1 ≤ t.period = some_period t s in
    let is = rounded_is b t.period some in
    let stays : t.period ≡ rounded n t.period = divisor_stays n t.period some e in
    let ours : units_over n t ≡ t.cost * (n / t.period) = sym (ap (λ p. t.cost * (n / p)) stays) in
    let r = rounded b t.period in
    let product-b : b ≡ r * (b / r) = quotient_of b r is.divides in
    let product-n : n ≡ t.period * (n / t.period) = quotient_of n t.period e in
    let both = crossed t.cost (n / t.period) (b / r) r t.period is.within in
    let left : units_over n t * b ≡ t.cost * (n / t.period) * (r * (b / r)) = ap (λ v. v * b) ours ∙ ap (λ v. t.cost * (n / t.period) * v) product-b in
    let right : units_over b t * n ≡ t.cost * (b / r) * (t.period * (n / t.period)) = ap (λ v. t.cost * (b / r) * v) product-n in
    omega (arith, both, left, right)

load_crossed : (n b : ℕ) (tasks : List Slotted) → All IsSlotted tasks → IsCommon tasks n → load_over n tasks * b ≤ load_over b tasks * n
load_crossed n b [] slotted common = omega arith
load_crossed n b (t ∷ tasks) slotted common =
    let here = units_crossed n b t (All-head IsSlotted t tasks slotted) (All-head (λ (s : Slotted). n % s.period ≡ 0) t tasks common) in
    let rest = load_crossed n b tasks (All-tail IsSlotted t tasks slotted) (All-tail (λ (s : Slotted). n % s.period ≡ 0) t tasks common) in
    let ours : load_over n (t ∷ tasks) * b ≡ (units_over n t + load_over n tasks) * b = ap (λ v. v * b) (sum_by-cons (units_over n) t tasks) in
    let theirs : load_over b (t ∷ tasks) * n ≡ (units_over b t + load_over b tasks) * n = ap (λ v. v * n) (sum_by-cons (units_over b) t tasks) in
    omega (arith, here, rest, ours, theirs)

-- what is carried over one base is carried over another over which it is no greater part
carried : (processors load n other b : ℕ) → 1 ≤ b → load * b ≤ other * n → other ≤ processors * b → load ≤ processors * n
carried processors load n other b some part enough =
    let times : other * n ≤ processors * b * n = mul-le-mul {n₁ = other} {m₁ = n} {n₂ = processors * b} {m₂ = n} enough (omega arith) in
    let all : load * b ≤ processors * n * b = omega (arith, part, times) in
    le_of_mul-le-mul_right {m = load} {n = processors * n} {k = b} all some

-- over a common multiple the tasks ask for least
pub fit_over_common : (processors n b : ℕ) (tasks : List Slotted) → 1 ≤ b → All IsSlotted tasks → IsCommon tasks n → FitOver processors b tasks
    → FitOver processors n tasks
fit_over_common processors n b tasks some slotted common f = record {
  holds = λ place d lt.
      let s : IsSlotted (get_or tasks place d) = slotted place d lt in
      subst (λ v. (get_or tasks place d).cost ≤ v)
      (divisor_stays n (get_or tasks place d).period (some_period (get_or tasks place d) s) (common place d lt)) s.within;
  enough = carried processors (load_over n tasks) n (load_over b tasks) b some (load_crossed n b tasks slotted common) f.enough;
}

-- a base over which there may be a plan of the tasks
pub record IsPossible (tasks : List Slotted) (b : ℕ) : Type 0 where
  pub some : 1 ≤ b
  pub within : b ≤ LARGEST_BASE
  pub kind : IsCommon tasks b ⊎ IsSevenSmooth b

exact_served : (processors b : ℕ) (tasks : List Slotted) (plan : Plan) → 1 ≤ b → All IsSlotted tasks → FitOver processors b tasks → IsExact tasks plan
    → IsServed processors plan
exact_served processors b tasks plan some slotted f e =
    omega (arith, (fit_over_common processors plan.base b tasks some slotted e.least.common f).enough, e.over.asks)

rounded_served : (processors b : ℕ) (tasks : List Slotted) (plan : Plan) → IsPossible tasks b → FitOver processors b tasks → IsRounded tasks plan
    → IsServed processors plan
rounded_served processors b tasks plan possible f r =
    elim possible.kind [
      | inl common ↦ absurd (r.none b possible.some possible.within common)
      | inr smooth ↦
          (let order = r.best.least b possible.within smooth f.holds in
          let part = le_over (record { base = plan.base; load = plan.load }) (record { base = b; load = load_over b tasks }) order in
          carried processors plan.load plan.base (load_over b tasks) b possible.some part f.enough)
    ]

-- where tasks fit over a base over which there may be a plan, each plan of them is served, and there is one
pub served : (processors b : ℕ) (tasks : List Slotted) (plan : Option Plan) → All IsSlotted tasks → IsPossible tasks b → FitOver processors b tasks
    → IsPlanned tasks plan → HasServedPlan processors plan
served processors b tasks None slotted possible f none =
    elim possible.kind [
      | inl common ↦ none.0 b possible.some possible.within common
      | inr smooth ↦ none.1 b possible.within smooth f.holds
    ]
served processors b tasks (Some plan) slotted possible f is =
    elim is [
      | inl e ↦ exact_served processors b tasks plan possible.some slotted f e
      | inr r ↦ rounded_served processors b tasks plan possible f r
    ]

-- a plan that is served has tasks that fit over its base
pub fit_of_plan : (processors : ℕ) (tasks : List Slotted) (plan : Plan) → All IsSlotted tasks → IsPlanFor tasks plan → IsServed processors plan
    → FitOver processors plan.base tasks
fit_of_plan processors tasks plan slotted is enough =
    elim is [
      | inl e ↦
          record {
            holds = λ place d lt.
                let s : IsSlotted (get_or tasks place d) = slotted place d lt in
                subst (λ v. (get_or tasks place d).cost ≤ v)
                (divisor_stays plan.base (get_or tasks place d).period (some_period (get_or tasks place d) s) (e.least.common place d lt)) s.within;
            enough = omega (arith, enough, e.over.asks);
          }
      | inr r ↦ record { holds = r.best.holds; enough = omega (arith, enough, r.over.asks) }
    ]

pub base_some : (tasks : List Slotted) (plan : Plan) → IsPlanFor tasks plan → 1 ≤ plan.base
base_some tasks plan is = elim is [ inl e ↦ e.least.some | inr r ↦ smooth_some plan.base r.best.smooth ]

-- where no plan may be served, each asks for more
pub unserved : (processors n : ℕ) (tasks : List Slotted) (plan : Plan) → All IsSlotted tasks → IsCommon tasks n → IsPlanFor tasks plan
    → (FitOver processors n tasks → ⊥) → processors * plan.base < plan.load
unserved processors n tasks plan slotted common is never =
    elim (cases_lt (processors * plan.base) plan.load) [
      | inl more ↦ more
      | inr enough ↦
          absurd (never (fit_over_common processors n plan.base tasks (base_some tasks plan is) slotted common
          (fit_of_plan processors tasks plan slotted is enough)))
    ]

-- rounded twice a period is what it is rounded once
rounded_zero : (base : ℕ) → rounded base zero ≡ zero
unfolding rounded
rounded_zero base = refl

twice : (base period : ℕ) → rounded base (rounded base period) ≡ rounded base period
twice base zero = ap (rounded base) (rounded_zero base)
twice base (suc p) =
    let is = rounded_is base (suc p) (omega arith) in
    sym (divisor_stays base (rounded base (suc p)) is.some is.divides)

pub load_unrounded : (base : ℕ) (tasks : List Slotted) → load_over base (map (rounded_task base) tasks) ≡ load_over base tasks
load_unrounded base [] = refl
load_unrounded base (t ∷ tasks) =
    let here : units_over base (rounded_task base t) ≡ units_over base t = ap (λ p. t.cost * (base / p)) (twice base t.period) in
    omega (
      arith,
      sum_by-cons (units_over base) (rounded_task base t) (map (rounded_task base) tasks),
      sum_by-cons (units_over base) t tasks,
      load_unrounded base tasks,
      here,
    )

-- tasks fit over a base where they do with periods that are rounded to it
pub fit_unrounded : (processors base : ℕ) (tasks : List Slotted) → FitOver processors base (map (rounded_task base) tasks) → FitOver processors base tasks
fit_unrounded processors base tasks f = record {
  holds = λ place d lt.
      let at = get_or-map (rounded_task base) tasks place d (rounded_task base d) lt in
      let holds = f.holds place (rounded_task base d) (omega (arith, length-map tasks (rounded_task base), lt)) in
      let same : (get_or tasks place d).cost ≤ rounded base (rounded base (get_or tasks place d).period) =
      subst (λ (s : Slotted). s.cost ≤ rounded base s.period) at holds in
      subst (λ v. (get_or tasks place d).cost ≤ v) (twice base (get_or tasks place d).period) same;
  enough = subst (λ v. v ≤ processors * base) (load_unrounded base tasks) f.enough;
}

-- a cost of some quanta is within its period where it is within the period rounded
pub period_some : (base cost period : ℕ) → 1 ≤ cost → cost ≤ rounded base period → 1 ≤ period
period_some base cost zero some le = absurd (omega (arith, rounded_zero base, le, some))
period_some base cost (suc p) some le = omega arith

pub within_period : (base cost period : ℕ) → 1 ≤ cost → cost ≤ rounded base period → cost ≤ period
within_period base cost period some le = omega (arith, le, (rounded_is base period (period_some base cost period some le)).within)
