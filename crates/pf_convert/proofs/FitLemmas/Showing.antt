-- What is shown of a plan holds what its texts ask of it.
use Rattle.std.proofs.Common.{◌≡◌, ℕ, ◌+◌, ◌%◌, ◌<◌, ◌≤◌, List, [], ◌∷◌, map, length, get_or, Option, None, Some, sym, ◌∙◌, ap, subst, arith}
use Rattle.std.specs.Prelude.{All, IfSome, MatchOption, unwrap_or}
use Rattle.std.proofs.lemmas.List.{length-map}
use Rattle.std.proofs.lemmas.List.Elements.{All-map}
use Rattle.pf_weight.specs.declared.base.TheConstants.{LARGEST_BASE}
use Rattle.pf_convert.specs.declared.fit.shown_task.ShownTask.{ShownTask}
use Rattle.pf_convert.specs.declared.list.listed.Listed.{Listed}
use Rattle.pf_convert.specs.declared.margins.least_period.LeastPeriod.TheVariants.{NoRoom}
use Rattle.pf_convert.specs.declared.margins.margin.Margin.{Margin}
use Rattle.pf_convert.specs.declared.plan.Plan.{Plan}
use Rattle.pf_convert.specs.declared.slotted.Slotted.{Slotted}
use Rattle.pf_convert.specs.declared.timed.Timed.{Timed}
use Rattle.pf_convert.specs.Fit.Answers.{AreShownTasks, processors_for}
use Rattle.pf_convert.specs.Fit.Shown.{IsShownTask}
use Rattle.pf_convert.specs.Margins.Fitting.{IsPlan, no_task}
use Rattle.pf_convert.specs.Plans.{IsNeeded}
use Rattle.pf_convert.specs.Slots.{IsSlotted, IsTimed}
use Rattle.pf_convert.proofs.MarginsLemmas.Fitting.{part_at}

pub times_timed : (listed : List Listed) (times : List Timed) → times ≡ map (λ (t : Listed). t.times) listed → All (λ t. IsTimed t.times) listed → All IsTimed times
times_timed listed times e timed = subst (All IsTimed) (sym e) (All-map IsTimed (λ (t : Listed). t.times) listed timed)

pub times_as_many : (listed : List Listed) (times : List Timed) (n : ℕ) → times ≡ map (λ (t : Listed). t.times) listed → length listed ≡ n → length times ≡ n
times_as_many listed times n e as_many = ap length e ∙ length-map listed (λ (t : Listed). t.times) ∙ as_many

-- there is one number of processors that are needed
pub needed_same : (base load n m : ℕ) → IsNeeded base load n → IsNeeded base load m → n ≡ m
needed_same base load n m a b =
    let up : n ≤ m = a.least m b.some b.enough in
    let down : m ≤ n = b.least n a.some a.enough in
    omega (arith, up, down)

pub needed_given : (base load m : ℕ) (needed : Option ℕ) → MatchOption needed ⊥ (IsNeeded base load) → IsNeeded base load m → unwrap_or needed 0 ≡ m
needed_given base load m None h b = absurd h
needed_given base load m (Some n) h b = needed_same base load n m h b

pub few_processors : (given : Option ℕ) (needed : ℕ) → IfSome given (λ m. m ≤ 64) → processors_for given needed ≤ 64
few_processors None needed h = omega arith
few_processors (Some m) needed h = h

no_margin : Margin
no_margin = record { most = None; least = NoRoom }

-- a task with times and slots that are so
shown_task : (times : Timed) (slots : Slotted) (t : ShownTask) → IsTimed times → IsSlotted slots → slots.period ≤ LARGEST_BASE → t.times ≡ times
    → t.slots ≡ slots → IsShownTask t
shown_task times slots t timed slotted within at in_slots = record {
  timed = subst IsTimed (sym at) timed;
  slotted = subst IsSlotted (sym in_slots) slotted;
  within = subst (λ (s : Slotted). s.period ≤ LARGEST_BASE) (sym in_slots) within;
}

pub shown_tasks_are : (listed : List Listed) (plan : Plan) (margins : List Margin) (tasks : List ShownTask) → All (λ t. IsTimed t.times) listed → IsPlan plan
    → length listed ≡ length plan.tasks.items → AreShownTasks listed plan.tasks.items margins tasks → All IsShownTask tasks
shown_tasks_are [] plan margins tasks timed p as_many h = λ k t lt. absurd (omega (arith, lt, h.as_many))
shown_tasks_are (l ∷ ls) plan margins tasks timed p as_many h = λ k t lt.
    let here : k < length (l ∷ ls) = omega (arith, lt, h.as_many) in
    let there : k < length plan.tasks.items = omega (arith, here, as_many) in
    let is = h.each k l no_task no_margin t lt in
    let part = part_at plan k no_task p there in
    shown_task (get_or (l ∷ ls) k l).times (get_or plan.tasks.items k no_task) (get_or tasks k t) (timed k l here) part.slotted
    (omega (arith, part.within, p.within)) is.times is.in_slots
