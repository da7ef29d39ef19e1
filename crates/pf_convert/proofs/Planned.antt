-- A period that divides the base stays as it is; plans from their parts.
use Rattle.std.proofs.Common.{◌≡◌, ℕ, ◌+◌, ◌*◌, ◌/◌, ◌%◌, ◌<◌, ◌≤◌, List, [], ◌∷◌, ◌++◌, map, take, length, get_or, true, refl, sym, ◌∙◌, ap, arith}
use Rattle.std.specs.Prelude.{All}
use Rattle.std.proofs.lemmas.List.{map_more}
use Rattle.std.proofs.lemmas.List.Folds.{map_fixed}
use Rattle.pf_weight.specs.declared.base.TheConstants.{LARGEST_BASE}
use Rattle.pf_convert.specs.declared.plan.Plan.{Plan}
use Rattle.pf_convert.specs.declared.slotted.Slotted.{Slotted}
use Rattle.pf_convert.specs.Slots.{IsSlotted}
use Rattle.pf_convert.specs.Multiples.{IsCommon, IsLeastCommon}
use Rattle.pf_convert.specs.Plans.{rounded_task, IsExact}
use Rattle.pf_convert.specs.Rounding.{rounded, load_over}
use Rattle.pf_convert.proofs.Dividing.{rounded_is}
use Rattle.pf_convert.proofs.Rounding.{IsLoadSoFar, task_loaded}

pub divisor_stays : (base period : ℕ) → 1 ≤ period → base % period ≡ 0 → period ≡ rounded base period
divisor_stays base period some e =
    let is = rounded_is base period some in
    omega (arith, is.within, is.greatest period some (omega arith) e)

pub task_stays : (base : ℕ) (t : Slotted) → IsSlotted t → base % t.period ≡ 0 → rounded_task base t ≡ t
task_stays base t s e = ap (λ p. record t { period = p }) (sym (divisor_stays base t.period (omega (arith, s.some, s.within)) e))

pub tasks_stay : (base : ℕ) (tasks : List Slotted) → All IsSlotted tasks → IsCommon tasks base → map (rounded_task base) tasks ≡ tasks
tasks_stay base tasks slotted common =
    map_fixed (rounded_task base) tasks (λ k d lt. task_stays base (get_or tasks k d) (slotted k d lt) (common k d lt))

pub exact_loaded : (base : ℕ) (tasks : List Slotted) (i l : ℕ) (d : Slotted) → i < length tasks → base ≤ LARGEST_BASE → IsCommon tasks base → All IsSlotted tasks
    → IsLoadSoFar base tasks i l → IsLoadSoFar base tasks (i + 1) (l + (get_or tasks i d).cost * (base / (get_or tasks i d).period))
exact_loaded base tasks i l d lt within common slotted h =
    let s : IsSlotted (get_or tasks i d) = slotted i d lt in
    task_loaded base tasks i l (get_or tasks i d).period d lt within h
    (divisor_stays base (get_or tasks i d).period (omega (arith, s.some, s.within)) (common i d lt)) s.within

pub exact_is : (tasks : List Slotted) (plan : Plan) → plan.exact ≡ true → IsLeastCommon tasks plan.base → plan.load ≡ load_over plan.base tasks
    → plan.tasks.items ≡ tasks → All IsSlotted tasks → IsExact tasks plan
exact_is tasks plan exact least asks items slotted = record {
  exact = exact;
  least = least;
  over = record { at = refl; asks = asks; rounds = items ∙ sym (tasks_stay plan.base tasks slotted least.common) };
  same = items;
}

-- a task with another period
abbrev pub with_period : Slotted → ℕ → Slotted
with_period t p = record t { period = p }

pub one_rounded : (base : ℕ) (tasks : List Slotted) (i period : ℕ) (d : Slotted) (items : List Slotted) → i < length tasks → period ≡ rounded base (get_or tasks i d).period
    → items ≡ map (rounded_task base) (take i tasks) → items ++ with_period (get_or tasks i d) period ∷ [] ≡ map (rounded_task base) (take (i + 1) tasks)
one_rounded base tasks i period d items lt is h =
    ap (λ xs. xs ++ with_period (get_or tasks i d) period ∷ []) h
    ∙ ap (λ p. map (rounded_task base) (take i tasks) ++ with_period (get_or tasks i d) p ∷ []) is
    ∙ sym (map_more (rounded_task base) tasks i d lt)
