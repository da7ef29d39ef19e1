-- No schedule in quanta serves a plan whose load is above its processors.
use Rattle.std.proofs.Common.{◌≡◌, ◌∙◌, ◌*◌, ◌/◌, ◌%◌, ◌<◌, ◌≤◌, ◌==◌, ◌||◌, ℕ, Bool, true, false, None, List, [], ◌∷◌, All, map, arith, refl, sym, ap, subst}
use Rattle.std.specs.Prelude.{sum_by}
use Rattle.std.specs.List.{list_any}
use Rattle.std.proofs.lemmas.Bool.Decides.{nat_tests}
use Rattle.std.proofs.lemmas.List.Elements.{All-head, All-tail}
use Rattle.std.proofs.lemmas.List.Sums.{sum_by-cons}
use Rattle.pf_weight.specs.Weighed.{weight_fault}
use Rattle.pf_weight.specs.declared.base.TheConstants.{LARGEST_BASE}
use Rattle.pf_convert.specs.declared.plan.Plan.{Plan}
use Rattle.pf_convert.specs.declared.slotted.Slotted.{Slotted}
use Rattle.pf_convert.specs.Margins.Fitting.{IsPlan}
use Rattle.pf_convert.specs.Multiples.{IsCommon}
use Rattle.pf_convert.specs.Rounding.{load_over, rounded}
use Rattle.pf_convert.specs.Slots.{IsSlotted}
use Rattle.pf_convert.proofs.Planned.{divisor_stays}
use Rattle.pf_laws.specs.StaticSets.Periodic.{Periodic}
use Rattle.pf_laws.specs.StaticSets.Service.{Serves}
use Rattle.pf_laws.proofs.StaticSetsLemmas.Fits.{each_served_fits}
use Rattle.pf_script_laws.specs.PlanFits.Laws.{HasTasks}
use Rattle.pf_script_laws.proofs.PlanFitsLemmas.Answered.{no_weight_fault}

module _ (base : ℕ) (cost period : ℕ → ℕ) where
  AreTasks : List ℕ → List Slotted → Type 0
  AreTasks ts tasks = (map cost ts ≡ map (λ (s : Slotted). s.cost) tasks) × (map period ts ≡ map (λ (s : Slotted). s.period) tasks)

  AreTaken : List Slotted → Type 0
  AreTaken tasks = All IsSlotted tasks × IsCommon tasks base

  -- what they ask for is the load
  loaded : (ts : List ℕ) (tasks : List Slotted) → AreTasks ts tasks → AreTaken tasks
      → sum_by (λ t. cost t * (base / period t)) ts ≡ load_over base tasks
  unfolding AreTasks AreTaken
  loaded [] [] same taken = refl
  loaded [] (s ∷ tasks) same taken = let a = same.0 in absurd (cc)
  loaded (t ∷ ts) [] same taken = let a = same.0 in absurd (cc)
  loaded (t ∷ ts) (s ∷ tasks) same taken =
      let a = same.0 in
      let b = same.1 in
      let c : cost t ≡ s.cost = cc in
      let d : period t ≡ s.period = cc in
      let cs : map cost ts ≡ map (λ (s : Slotted). s.cost) tasks = cc in
      let ds : map period ts ≡ map (λ (s : Slotted). s.period) tasks = cc in
      let one = All-head IsSlotted s tasks taken.0 in
      let divides = All-head (λ (s : Slotted). base % s.period ≡ 0) s tasks taken.1 in
      let stays : s.period ≡ rounded base s.period = divisor_stays base s.period (omega (arith, one.some, one.within)) divides in
      let rest = loaded ts tasks (cs, ds) (All-tail IsSlotted s tasks taken.0, All-tail (λ (s : Slotted). base % s.period ≡ 0) s tasks taken.1) in
      sum_by-cons (λ t. cost t * (base / period t)) t ts
      ∙ rw (c, d ∙ stays, rest) (sym (sum_by-cons (λ (t : Slotted). t.cost * (base / rounded base t.period)) s tasks))

  -- and each is a weight over the base
  weighed : (ts : List ℕ) (tasks : List Slotted) → AreTasks ts tasks → AreTaken tasks → (t : ℕ) → list_any (λ u. t == u) ts ≡ true
      → weight_fault base (cost t) (period t) ≡ None
  unfolding AreTasks AreTaken
  weighed [] tasks same taken t is = absurd (cc)
  weighed (u ∷ ts) [] same taken t is = let a = same.0 in absurd (cc)
  weighed (u ∷ ts) (s ∷ tasks) same taken t is =
      let a = same.0 in
      let b = same.1 in
      let c : cost u ≡ s.cost = cc in
      let d : period u ≡ s.period = cc in
      let cs : map cost ts ≡ map (λ (s : Slotted). s.cost) tasks = cc in
      let ds : map period ts ≡ map (λ (s : Slotted). s.period) tasks = cc in
      let one = All-head IsSlotted s tasks taken.0 in
      let divides = All-head (λ (s : Slotted). base % s.period ≡ 0) s tasks taken.1 in
      let first : weight_fault base (cost u) (period u) ≡ None = rw (c, d) (no_weight_fault base s (record { slotted = one; divides = divides })) in
      let rest = weighed ts tasks (cs, ds) (All-tail IsSlotted s tasks taken.0, All-tail (λ (s : Slotted). base % s.period ≡ 0) s tasks taken.1) t in
      by (t == u) refl is first rest
    where
      by : (b : Bool) → (t == u) ≡ b → (b || list_any (λ v. t == v) ts) ≡ true → weight_fault base (cost u) (period u) ≡ None
          → (list_any (λ v. t == v) ts ≡ true → weight_fault base (cost t) (period t) ≡ None) → weight_fault base (cost t) (period t) ≡ None
      by true e is first rest =
          let same : u ≡ t = grind (arith, nat_tests, e) in subst (λ v. weight_fault base (cost v) (period v) ≡ None) same first
      by false e is first rest = rest is

-- Use: its tasks would come to no more than the processors.
pub none_serves : (plan : Plan) (p : Periodic) (runs : ℕ → ℕ → Bool) → IsPlan plan → HasTasks p plan.tasks.items → p.base ≡ plan.base
    → p.processors * plan.base < plan.load → Serves p runs → ⊥
unfolding AreTasks AreTaken
none_serves plan p runs is has base above serves =
    let same : AreTasks p.base p.cost p.period p.tasks plan.tasks.items = (has.costs, has.periods) in
    let common : IsCommon plan.tasks.items p.base = subst (IsCommon plan.tasks.items) (sym base) is.common in
    let taken : AreTaken p.base p.cost p.period plan.tasks.items = (is.slotted, common) in
    let fits = each_served_fits p runs (record {
      base = record { some = subst (λ n. 1 ≤ n) (sym base) is.some; within = subst (λ n. n ≤ LARGEST_BASE) (sym base) is.within };
      weights = λ t named. weighed p.base p.cost p.period p.tasks plan.tasks.items same taken t named;
    }) serves in
    let load = loaded p.base p.cost p.period p.tasks plan.tasks.items same taken in
    let all : plan.load ≡ load_over p.base plan.tasks.items = is.asks ∙ ap (λ n. load_over n plan.tasks.items) (sym base) in
    omega (arith, above, subst (λ n. n ≤ p.processors * p.base) (load ∙ sym all) fits, ap (λ n. p.processors * n) base)
