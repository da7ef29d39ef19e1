-- Margins put in place of the numbers of a plan.
use Rattle.std.proofs.Common.{◌≡◌, ℕ, zero, suc, ◌+◌, ◌-◌, ◌*◌, ◌/◌, ◌%◌, ◌<◌, ◌≤◌, ◌⊎◌, inl, inr, List, [], ◌∷◌, map, length, get_or, set, Option, None, Some, MatchOption, refl, sym, ◌∙◌, ap, subst, arith}
use Rattle.std.specs.Int.{div_ceil}
use Rattle.std.specs.Prelude.{All}
use Rattle.std.proofs.Math.Nat.{mul-le-mul, mul-mod_right}
use Rattle.std.proofs.lemmas.List.{get_or-map, get_or-set_same, length-map, length-set, map-set}
use Rattle.std.proofs.lemmas.List.Elements.{All-map, All-set, All-weaker}
use Rattle.std.proofs.lemmas.Slice.Zip.{get_or-zip, length-zip}
use Rattle.std.specs.List.{zip}
use Rattle.pf_weight.specs.declared.base.TheConstants.{LARGEST_BASE}
use Rattle.pf_convert.specs.declared.timed.Timed.{Timed}
use Rattle.pf_convert.specs.declared.plan.Plan.{Plan}
use Rattle.pf_convert.specs.declared.quantum.Quantum.{Quantum}
use Rattle.pf_convert.specs.declared.slotted.Slotted.{Slotted}
use Rattle.pf_convert.specs.Margins.Fitting.{FitOver, no_task, task_at}
use Rattle.pf_convert.specs.Margins.Laws.{IsPlanFor, IsPlanOf, LeastDivisorIsServed, LeastPeriodIsServed, LongerSwitchIsUnserved, LowerPeriodIsUnserved, MoreWorkIsUnserved, MostSwitchIsServed, MostWorkIsServed, with_slots, with_work}
use Rattle.pf_convert.specs.Margins.Periods.{HaveBase, HasRoomForPeriod, with_period}
use Rattle.pf_convert.specs.Margins.Switches.{HasRoomForSwitch, with_costs}
use Rattle.pf_convert.specs.Margins.Works.{HasRoomForWork, with_cost}
use Rattle.pf_convert.specs.Multiples.{IsCommon}
use Rattle.pf_convert.specs.Plans.{IsExact, IsRounded, rounded_task}
use Rattle.pf_convert.specs.Rounding.{Holds, load_over, rounded}
use Rattle.pf_convert.specs.Slots.{IsSlotted}
use Rattle.pf_convert.proofs.Dividing.{rounded_is}
use Rattle.pf_convert.proofs.Counting.{cover_of}
use Rattle.pf_convert.proofs.Division.{divides_on, multiple_is_no_less}
use Rattle.pf_convert.proofs.Planned.{divisor_stays}
use Rattle.pf_convert.proofs.MarginsLemmas.Bases.{IsPossible, base_some, fit_over_common, fit_unrounded, period_some, served, some_period, unserved, within_period}
use Rattle.pf_convert.proofs.MarginsLemmas.Switches.{costed}
use Rattle.pf_convert.proofs.MarginsLemmas.Fitting.{holds_at}

-- the tasks of a plan are those it was made of, with periods rounded to its base
pub rounded_all : (tasks : List Slotted) (plan : Plan) → IsPlanFor tasks plan → plan.tasks.items ≡ map (rounded_task plan.base) tasks
rounded_all tasks plan is = elim is [ inl e ↦ e.over.rounds | inr r ↦ r.over.rounds ]

-- its base is possible for tasks with the same periods
pub possible_with : (tasks : List Slotted) (plan : Plan) (place : ℕ) (t : Slotted) → IsPlanFor tasks plan → t.period ≡ (get_or tasks place no_task).period
    → place < length tasks → IsPossible (set tasks place t) plan.base
possible_with tasks plan place t is same lt = record {
  some = base_some tasks plan is;
  within = elim is [ inl e ↦ e.least.within | inr r ↦ r.best.within ];
  kind =
      elim is [
        | inl e ↦
            inl (All-set (λ (s : Slotted). plan.base % s.period ≡ 0) tasks place t (subst (λ v. plan.base % v ≡ 0) (sym same) (e.least.common place no_task lt))
            e.least.common)
        | inr r ↦ inr r.best.smooth
      ];
}

-- the task that a plan has at a place
pub task_of : (tasks : List Slotted) (plan : Plan) (place : ℕ) → IsPlanFor tasks plan → place < length tasks
    → task_at plan place ≡ rounded_task plan.base (get_or tasks place no_task)
task_of tasks plan place is lt =
    ap (λ ts. get_or ts place no_task) (rounded_all tasks plan is) ∙ get_or-map (rounded_task plan.base) tasks place no_task no_task lt

-- what fits with a plan's tasks fits with those that it was made of
pub fit_of_work : (processors : ℕ) (tasks : List Slotted) (plan : Plan) (place cost : ℕ) → IsPlanFor tasks plan → place < length tasks
    → FitOver processors plan.base (set plan.tasks.items place (with_cost (task_at plan place) cost))
    → FitOver processors plan.base (set tasks place (with_cost (get_or tasks place no_task) cost))
fit_of_work processors tasks plan place cost is lt f =
    let t = with_cost (get_or tasks place no_task) cost in
    let items = rounded_all tasks plan is in
    let at = task_of tasks plan place is lt in
    let same : set plan.tasks.items place (with_cost (task_at plan place) cost) ≡ map (rounded_task plan.base) (set tasks place t) =
    ap (λ ts. set ts place (with_cost (task_at plan place) cost)) items
    ∙ ap (λ (s : Slotted). set (map (rounded_task plan.base) tasks) place (with_cost s cost)) at ∙ sym (map-set (rounded_task plan.base) tasks place t) in
    fit_unrounded processors plan.base (set tasks place t) (subst (FitOver processors plan.base) same f)

-- a changed task is in slots where the base holds it
pub slotted_with : (base : ℕ) (tasks : List Slotted) (place cost : ℕ) → All IsSlotted tasks → place < length tasks → 1 ≤ cost
    → Holds base (set tasks place (with_cost (get_or tasks place no_task) cost)) → All IsSlotted (set tasks place (with_cost (get_or tasks place no_task) cost))
slotted_with base tasks place cost slotted lt some holds =
    let t = get_or tasks place no_task in
    let s : IsSlotted t = slotted place no_task lt in
    let fits : cost ≤ rounded base t.period = holds_at base tasks place (with_cost t cost) lt holds in
    let within = (rounded_is base t.period (some_period t s)).within in
    All-set IsSlotted tasks place (with_cost t cost)
    (record { some = some; within = omega (arith, fits, within); short = s.short; join = s.join; early = s.early }) slotted

some_cost : (work part : ℕ) → 1 ≤ work → 1 ≤ part → 1 ≤ div_ceil work part
some_cost work part some one = by (div_ceil work part) (cover_of work part (div_ceil work part) one refl).covers
  where
    by : (n : ℕ) → work ≤ n * part → 1 ≤ n
    by zero h = absurd (omega (arith, h, some))
    by (suc n) h = omega arith

pub most_work_is_served : MostWorkIsServed
most_work_is_served processors q tasks plan place work changed quantum is lt most planned =
    let cost = div_ceil work (q.length - q.switch) in
    let fit = fit_of_work processors tasks plan place cost is.planned lt most.room in
    let some : 1 ≤ cost = some_cost work (q.length - q.switch) most.some (omega (arith, quantum.switch)) in
    served processors plan.base (with_work q tasks place work) changed
    (slotted_with plan.base tasks place cost is.slotted lt some fit.holds)
    (possible_with tasks plan place (with_cost (get_or tasks place no_task) cost) is.planned refl lt) fit planned

-- over the least common multiple the tasks of the plan are those it was made of
pub same_with : (tasks : List Slotted) (plan : Plan) (place : ℕ) (f : Slotted → Slotted) → IsExact tasks plan
    → set tasks place (f (get_or tasks place no_task)) ≡ set plan.tasks.items place (f (task_at plan place))
same_with tasks plan place f e = ap (λ ts. set ts place (f (get_or ts place no_task))) (sym e.same)

pub more_work_is_unserved : MoreWorkIsUnserved
more_work_is_unserved processors q tasks plan place work more changed slotted e lt most less in-slots is =
    let cost = div_ceil more (q.length - q.switch) in
    let common : IsCommon (with_work q tasks place more) plan.base =
    All-set (λ (s : Slotted). plan.base % s.period ≡ 0) tasks place (with_cost (get_or tasks place no_task) cost) (e.least.common place no_task lt) e.least.common in
    unserved processors plan.base (with_work q tasks place more) changed in-slots common is
    (λ f. let room : HasRoomForWork processors q plan place more = subst (FitOver processors plan.base) (same_with tasks plan place (λ s. with_cost s cost) e) f in
    omega (arith, most.most more room, less))

-- a task with a period that the base holds is in slots
period_slotted : (base period : ℕ) (t : Slotted) → IsSlotted t → period ≤ LARGEST_BASE → t.cost ≤ rounded base period → IsSlotted (with_period t period)
period_slotted base period t s short fits = record {
  some = s.some;
  within = within_period base t.cost period s.some fits;
  short = omega (arith, short);
  join = s.join;
  early = s.early;
}

some_product : (a b : ℕ) → 1 ≤ a → 1 ≤ b → 1 ≤ a * b
some_product a b one two = mul-le-mul {n₁ = 1} {m₁ = 1} {n₂ = a} {m₂ = b} one two

pub least_period_is_served : LeastPeriodIsServed
least_period_is_served processors tasks plan place period changed slotted e lt least h planned =
    let t = get_or tasks place no_task in
    let s : IsSlotted t = slotted place no_task lt in
    let f : FitOver processors (plan.base * period) (with_slots tasks place period) =
    subst (FitOver processors (plan.base * period)) (sym (same_with tasks plan place (λ s. with_period s period) e)) least.room in
    let fits : t.cost ≤ rounded (plan.base * period) period = holds_at (plan.base * period) tasks place (with_period t period) lt f.holds in
    let some : 1 ≤ period = period_some (plan.base * period) t.cost period s.some fits in
    let short : period ≤ LARGEST_BASE = omega (arith, multiple_is_no_less h.common period h.some h.second, h.within) in
    let in-slots : All IsSlotted (with_slots tasks place period) =
    All-set IsSlotted tasks place (with_period t period) (period_slotted (plan.base * period) period t s short fits) slotted in
    let common : IsCommon (with_slots tasks place period) h.common =
    All-set (λ (s : Slotted). h.common % s.period ≡ 0) tasks place (with_period t period) h.second
    (All-weaker (λ (s : Slotted). plan.base % s.period ≡ 0) (λ (s : Slotted). h.common % s.period ≡ 0) (λ s d. divides_on h.common plan.base s.period h.first d) tasks
    e.least.common) in
    served processors h.common (with_slots tasks place period) changed in-slots
    (record { some = h.some; within = h.within; kind = inl common })
    (fit_over_common processors h.common (plan.base * period) (with_slots tasks place period) (some_product plan.base period e.least.some some) in-slots common f)
    planned

-- the periods of a plan divide its base
common_in : (tasks : List Slotted) (plan : Plan) → All IsSlotted tasks → IsPlanFor tasks plan → IsCommon plan.tasks.items plan.base
common_in tasks plan slotted is =
    subst (λ ts. IsCommon ts plan.base) (sym (rounded_all tasks plan is))
    (All-map (λ (s : Slotted). plan.base % s.period ≡ 0) (rounded_task plan.base) tasks
    (λ k d lt. (rounded_is plan.base (get_or tasks k d).period (some_period (get_or tasks k d) (slotted k d lt))).divides))

-- and its tasks are in slots
holds_of : (tasks : List Slotted) (plan : Plan) → All IsSlotted tasks → IsPlanFor tasks plan → Holds plan.base tasks
holds_of tasks plan slotted is =
    elim is [
      | inl e ↦
          (λ k d lt.
          let s : IsSlotted (get_or tasks k d) = slotted k d lt in
          subst (λ v. (get_or tasks k d).cost ≤ v)
          (divisor_stays plan.base (get_or tasks k d).period (some_period (get_or tasks k d) s) (e.least.common k d lt)) s.within)
      | inr r ↦ r.best.holds
    ]

rounded_in_slots : (base : ℕ) (t : Slotted) → IsSlotted t → t.cost ≤ rounded base t.period → IsSlotted (rounded_task base t)
rounded_in_slots base t s fits = record {
  some = s.some;
  within = fits;
  short = omega (arith, (rounded_is base t.period (some_period t s)).within, s.short);
  join = s.join;
  early = s.early;
}

slotted_in : (tasks : List Slotted) (plan : Plan) → All IsSlotted tasks → IsPlanFor tasks plan → All IsSlotted plan.tasks.items
slotted_in tasks plan slotted is =
    subst (All IsSlotted) (sym (rounded_all tasks plan is))
    (All-map IsSlotted (rounded_task plan.base) tasks
    (λ k d lt. rounded_in_slots plan.base (get_or tasks k d) (slotted k d lt) (holds_of tasks plan slotted is k d lt)))

length_in : (tasks : List Slotted) (plan : Plan) → IsPlanFor tasks plan → length plan.tasks.items ≡ length tasks
length_in tasks plan is = ap length (rounded_all tasks plan is) ∙ length-map tasks (rounded_task plan.base)

-- over the base itself, where it is a multiple of the period
over_base : (processors : ℕ) (tasks : List Slotted) (plan : Plan) (place period : ℕ) → IsPlanOf tasks plan → place < length tasks → plan.base % period ≡ 0
    → HasRoomForPeriod processors plan place period
    → FitOver processors plan.base (set plan.tasks.items place (with_period (task_at plan place) period))
over_base processors tasks plan place period is lt divides f =
    let t = task_at plan place in
    let here : place < length plan.tasks.items = omega (arith, length_in tasks plan is.planned, lt) in
    let all = slotted_in tasks plan is.slotted is.planned in
    let s : IsSlotted t = all place no_task here in
    let fits : t.cost ≤ rounded (plan.base * period) period = holds_at (plan.base * period) plan.tasks.items place (with_period t period) here f.holds in
    let some : 1 ≤ period = period_some (plan.base * period) t.cost period s.some fits in
    let base : 1 ≤ plan.base = base_some tasks plan is.planned in
    let within : plan.base ≤ LARGEST_BASE = elim is.planned [ inl e ↦ e.least.within | inr r ↦ r.best.within ] in
    let short : period ≤ LARGEST_BASE = omega (arith, multiple_is_no_less plan.base period base divides, within) in
    fit_over_common processors plan.base (plan.base * period) (set plan.tasks.items place (with_period t period)) (some_product plan.base period base some)
    (All-set IsSlotted plan.tasks.items place (with_period t period) (period_slotted (plan.base * period) period t s short fits) all)
    (All-set (λ (s : Slotted). plan.base % s.period ≡ 0) plan.tasks.items place (with_period t period) divides (common_in tasks plan is.slotted is.planned)) f

-- a divisor of the base is not rounded
fit_of_period : (processors : ℕ) (tasks : List Slotted) (plan : Plan) (place period : ℕ) → IsPlanFor tasks plan → place < length tasks → 1 ≤ period
    → plan.base % period ≡ 0 → FitOver processors plan.base (set plan.tasks.items place (with_period (task_at plan place) period))
    → FitOver processors plan.base (with_slots tasks place period)
fit_of_period processors tasks plan place period is lt some divides f =
    let t = get_or tasks place no_task in
    let at = task_of tasks plan place is lt in
    let stays : with_period t period ≡ rounded_task plan.base (with_period t period) =
    ap (λ p. with_period t p) (divisor_stays plan.base period some divides) in
    let same : set plan.tasks.items place (with_period (task_at plan place) period) ≡ map (rounded_task plan.base) (with_slots tasks place period) =
    ap (λ ts. set ts place (with_period (task_at plan place) period)) (rounded_all tasks plan is)
    ∙ ap (λ (s : Slotted). set (map (rounded_task plan.base) tasks) place (with_period s period)) at
    ∙ ap (λ (s : Slotted). set (map (rounded_task plan.base) tasks) place s) stays ∙ sym (map-set (rounded_task plan.base) tasks place (with_period t period)) in
    fit_unrounded processors plan.base (with_slots tasks place period) (subst (FitOver processors plan.base) same f)

pub least_divisor_is_served : LeastDivisorIsServed
least_divisor_is_served processors tasks plan place period changed is lt least planned =
    let t = get_or tasks place no_task in
    let s : IsSlotted t = is.slotted place no_task lt in
    let base : 1 ≤ plan.base = base_some tasks plan is.planned in
    let within : plan.base ≤ LARGEST_BASE = elim is.planned [ inl e ↦ e.least.within | inr r ↦ r.best.within ] in
    let short : period ≤ LARGEST_BASE = omega (arith, multiple_is_no_less plan.base period base least.divides, within) in
    let over = over_base processors tasks plan place period is lt least.divides least.room in
    let here : place < length plan.tasks.items = omega (arith, length_in tasks plan is.planned, lt) in
    let first : (task_at plan place).cost ≤ rounded plan.base period =
    holds_at plan.base plan.tasks.items place (with_period (task_at plan place) period) here over.holds in
    let some : 1 ≤ period =
    period_some plan.base (task_at plan place).cost period (slotted_in tasks plan is.slotted is.planned place no_task here).some first in
    let f = fit_of_period processors tasks plan place period is.planned lt some least.divides over in
    let fits : t.cost ≤ rounded plan.base period = holds_at plan.base tasks place (with_period t period) lt f.holds in
    served processors plan.base (with_slots tasks place period) changed
    (All-set IsSlotted tasks place (with_period t period) (period_slotted plan.base period t s short fits) is.slotted)
    (record {
      some = base;
      within = within;
      kind =
          elim is.planned [
            | inl e ↦ inl (All-set (λ (s : Slotted). plan.base % s.period ≡ 0) tasks place (with_period t period) least.divides e.least.common)
            | inr r ↦ inr r.best.smooth
          ];
    })
    f planned

pub lower_period_is_unserved : LowerPeriodIsUnserved
lower_period_is_unserved processors tasks plan place period lower changed slotted e lt least less in-slots is =
    let t = get_or tasks place no_task in
    let n = plan.base * lower in
    let lower-divides : n % lower ≡ 0 = (let back : plan.base * lower ≡ lower * plan.base = omega arith in ap (λ v. v % lower) back ∙ mul-mod_right lower plan.base) in
    let common : IsCommon (with_slots tasks place lower) n =
    All-set (λ (s : Slotted). n % s.period ≡ 0) tasks place (with_period t lower) lower-divides
    (All-weaker (λ (s : Slotted). plan.base % s.period ≡ 0) (λ (s : Slotted). n % s.period ≡ 0)
    (λ s d. divides_on n plan.base s.period (mul-mod_right plan.base lower) d) tasks e.least.common) in
    unserved processors n (with_slots tasks place lower) changed in-slots common is
    (λ f. let room : HasRoomForPeriod processors plan place lower = subst (FitOver processors n) (same_with tasks plan place (λ s. with_period s lower) e) f in
    omega (arith, least.least lower room, less))

-- costs and rounded periods do not mind one another
costs_rounded : (base part : ℕ) (times : List Timed) (tasks : List Slotted)
    → with_costs part times (map (rounded_task base) tasks) ≡ map (rounded_task base) (with_costs part times tasks)
costs_rounded base part [] tasks = refl
costs_rounded base part (time ∷ times) [] = refl
costs_rounded base part (time ∷ times) (t ∷ tasks) =
    ap (λ ts. rounded_task base (with_cost t (div_ceil time.work part)) ∷ ts) (costs_rounded base part times tasks)

common_costs : (base part : ℕ) (times : List Timed) (tasks : List Slotted) → IsCommon tasks base → IsCommon (with_costs part times tasks) base
common_costs base part times tasks common =
    All-map (λ (s : Slotted). base % s.period ≡ 0) (costed part) (zip times tasks)
    (λ k d lt.
    let first : k < length times = omega (arith, length-zip times tasks, lt) in
    let second : k < length tasks = omega (arith, length-zip times tasks, lt) in
    subst (λ (p : Timed × Slotted). base % p.1.period ≡ 0) (sym (get_or-zip times tasks k d first second)) (common k d.1 second))

pub most_switch_is_served : MostSwitchIsServed
most_switch_is_served processors quantum switch times tasks plan changed is as-many in-slots most planned =
    let part = quantum - switch in
    let same : with_costs part times plan.tasks.items ≡ map (rounded_task plan.base) (with_costs part times tasks) =
    ap (with_costs part times) (rounded_all tasks plan is.planned) ∙ costs_rounded plan.base part times tasks in
    served processors plan.base (with_costs part times tasks) changed in-slots
    (record {
      some = base_some tasks plan is.planned;
      within = elim is.planned [ inl e ↦ e.least.within | inr r ↦ r.best.within ];
      kind =
          elim is.planned [ inl e ↦ inl (common_costs plan.base part times tasks e.least.common) | inr r ↦ inr r.best.smooth ];
    })
    (fit_unrounded processors plan.base (with_costs part times tasks) (subst (FitOver processors plan.base) same most.room.fit)) planned

pub longer_switch_is_unserved : LongerSwitchIsUnserved
longer_switch_is_unserved processors quantum switch longer times tasks plan changed slotted e as-many most more within in-slots is =
    unserved processors plan.base (with_costs (quantum - longer) times tasks) changed in-slots (common_costs plan.base (quantum - longer) times tasks e.least.common) is
    (λ f. let room : HasRoomForSwitch processors quantum times plan longer =
    record { within = within; fit = subst (λ ts. FitOver processors plan.base (with_costs (quantum - longer) times ts)) (sym e.same) f } in
    omega (arith, most.most longer room, more))
