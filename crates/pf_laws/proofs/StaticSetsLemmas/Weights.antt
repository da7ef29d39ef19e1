-- What periodic tasks ask for, as a demand. A number that is no task has the weight 1.
use Rattle.std.proofs.Common.{◌≡◌, ℕ, ◌*◌, ◌≤◌, Bool, true, false, if◌then◌else◌, sum_by, refl, arith}
use Rattle.std.proofs.lemmas.Bool.{cond-true}
use Rattle.pf_weight.specs.Share.{Share, IsShare, IsBase}
use Rattle.pf_laws.proofs.IdealLemmas.Sums.{sum_by-mono}
use Rattle.pf_laws.specs.Reach.Demand.{Demand, IsDemand}
use Rattle.pf_laws.proofs.ReachLemmas.Weights.{weight-share, weight-exact}
use Rattle.pf_laws.specs.StaticSets.Periodic.{Periodic, is_task_of, weight_of, IsFeasible}

-- a whole processor
abbrev pub whole_of : ℕ → Share
whole_of base = record { cost = 1; period = 1; units = base }

abbrev pub weight_or : Periodic → ℕ → Share
weight_or p t = if is_task_of p t then weight_of p t else whole_of p.base

abbrev pub demand_of : Periodic → Demand
demand_of p = record { tasks = p.tasks; weight = weight_or p; shift = λ t i. 0; base = p.base }

pub whole-share : (base : ℕ) → IsBase base → IsShare (whole_of base)
whole-share base is = record {
  some = omega arith;
  within = omega arith;
  short = omega arith;
  units_some = is.some;
  units_within = is.within;
}

module _ (p : Periodic) (is : IsFeasible p) where
  pub weight-known : (t : ℕ) → is_task_of p t ≡ true → weight_or p t ≡ weight_of p t
  weight-known t known = cond-true (is_task_of p t) (weight_of p t) (whole_of p.base) known

  pub is_demand : IsDemand (demand_of p)
  is_demand = record {
    some = is.base.some;
    shares = λ t. share t (is_task_of p t) refl;
    exact = λ t. exact t (is_task_of p t) refl;
    rise = λ t i. omega arith;
  } where
    share : (t : ℕ) (b : Bool) → is_task_of p t ≡ b → IsShare (if b then weight_of p t else whole_of p.base)
    share t true known = weight-share p.base (p.cost t) (p.period t) is.base (is.weights t known)
    share t false unknown = whole-share p.base is.base

    exact : (t : ℕ) (b : Bool) → is_task_of p t ≡ b →
        (if b then weight_of p t else whole_of p.base).units * (if b then weight_of p t else whole_of p.base).period
        ≡ (if b then weight_of p t else whole_of p.base).cost * p.base
    exact t true known = weight-exact p.base (p.cost t) (p.period t) is.base (is.weights t known)
    exact t false unknown = omega arith

  -- what the tasks ask of a slot
  pub load-within : sum_by (λ t. if is_task_of p t then (weight_or p t).units else 0) p.tasks ≤ p.base * p.processors
  load-within =
      let le =
      sum_by-mono (λ t. if is_task_of p t then (weight_or p t).units else 0) (λ t. (weight_of p t).units) p.tasks
      (λ t. at_most t (is_task_of p t)) in
      omega (arith, le, is.within)
    where
      at_most : (t : ℕ) (b : Bool) →
          (if b then (if b then weight_of p t else whole_of p.base).units else 0) ≤ (weight_of p t).units
      at_most t true = omega arith
      at_most t false = omega arith
