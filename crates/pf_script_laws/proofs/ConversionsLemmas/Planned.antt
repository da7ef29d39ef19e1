-- The plans of tasks that a list tells.
use Rattle.std.proofs.Common.{◌≡◌, ◌∙◌, ◌-◌, ◌*◌, ◌<◌, ◌≤◌, ◌/◌, ◌%◌, ◌==◌, ℕ, zero, suc, Bool, true, false, nat_le, nat_lt, Option, None, Some, Result, Ok, Err, List, [], ◌∷◌, All, length, map, get_or, inl, inr, arith, refl, sum_by, sym, ap, subst, subst₂}
use Rattle.std.specs.Prelude.{◌⊎◌, MatchOption, slice_index}
use Rattle.std.specs.Bool.{MatchBool}
use Rattle.std.specs.Int.{div_ceil}
use Rattle.std.proofs.lemmas.Bool.Decides.{nat_tests}
use Rattle.std.proofs.lemmas.Grind.{div_ceil_times}
use Rattle.std.proofs.lemmas.List.{length-append, length-map}
use Rattle.std.proofs.lemmas.List.Sums.{sum_by-cons}
use Rattle.std.proofs.lemmas.List.Elements.{All-append, All-cons, All-head, All-map, All-nil, All-tail}
use Rattle.pf_convert.specs.declared.plan.Plan.{Plan}
use Rattle.pf_convert.specs.declared.quantum.Quantum.{Quantum}
use Rattle.pf_convert.specs.declared.slot_fault.SlotFault.{SlotFault}
use Rattle.pf_convert.specs.declared.slot_fault.SlotFault.TheVariants.{BeforeArrival, CostAbovePeriod, DueTooSoon, JoinBeyondHorizon, TooEarly}
use Rattle.pf_convert.specs.declared.slotted.Slotted.{Slotted}
use Rattle.pf_convert.specs.declared.timed.Timed.{Timed}
use Rattle.pf_convert.specs.Plans.{IsExact, IsNeeded, IsOver, IsRounded, rounded_task}
use Rattle.pf_convert.specs.Rounding.{load_over, rounded}
use Rattle.pf_convert.specs.Slots.{IsQuantum, IsSlotted, runs_before_arrival, slots_of, slots_or_fault}
use Rattle.pf_convert.proofs.Division.{multiple_is_no_less}
use Rattle.pf_convert.proofs.Dividing.{rounded_is}
use Rattle.pf_scenario.specs.declared.limits.TheConstants.{MOST_EARLY}
use Rattle.pf_scenario.specs.declared.settings.TheConstants.{WIDE_HORIZON}
use Rattle.pf_vocabulary.specs.declared.fault.answer.Answer.{Answer}
use Rattle.pf_vocabulary.specs.declared.names.unit.Unit.{Unit}
use Rattle.pf_weight.specs.declared.base.TheConstants.{LARGEST_BASE}
use Rattle.pf_weight.specs.declared.task.TheConstants.{LARGEST_TASK}
use Rattle.pf_convert.specs.declared.list.listed.Listed.{Listed}
use Rattle.pf_convert.specs.List.List.{ListTold, list_told}
use Rattle.pf_convert.specs.declared.conversion.planned.Planned.{Planned}
use Rattle.pf_convert.specs.Conversion.Answers.{IsPlanAnswer, IsScriptAnswer, IsTold, OnProcessors, ScriptFor, ScriptShown, too_many_text, tried_line, tried_of}
use Rattle.pf_convert.specs.Conversion.Conversions.{AnswersList, IsAnswerIn, terms_of}
use Rattle.pf_convert.specs.Conversion.Series.{outcome_of, quantum_of}
use Rattle.pf_convert.specs.Outcomes.{IsShownQuantum}
use Rattle.pf_convert.specs.Words.Reading.{IsConversion}
use Rattle.pf_convert.specs.declared.conversion.list_file.ListFile.{ListFile}
use Rattle.pf_convert.specs.declared.plan_fault.PlanFault.{PlanFault}
use Rattle.pf_convert.specs.declared.terms.Terms.{Terms}
use Rattle.pf_convert.specs.declared.words.arrivals.Arrivals.{Arrivals}
use Rattle.pf_convert.specs.declared.words.conversion.Conversion.{Conversion}
use Rattle.pf_convert.specs.declared.words.conversion.ConvertFormat.TheVariants.{Script}
use Rattle.pf_convert.specs.List.Messages.{Told}
use Rattle.pf_convert.specs.Conversion.Planned.{IsPlanned, IsPlannedAt, IsPlannedWith, NeedsFor}
use Rattle.pf_convert.specs.Conversion.Slots.{slot_faults, slots_given, slots_in}
use Rattle.pf_convert.proofs.ConversionLemmas.Bases.{smooth_some}
use Rattle.pf_script_laws.specs.Conversions.Read.{IsWritten}
use Rattle.pf_script_laws.specs.Conversions.Written.{AreSome, IsMeasured, ListsBecomePlans, WritesNothing, WritesPlan}
use Rattle.pf_script_laws.proofs.ConversionsLemmas.Told.{AreTold, IsFewTold, list_is_told, unless_ok}
use Rattle.pf_script_laws.proofs.ConversionsLemmas.Tried.{ArePlannedIn, planned_in}

-- the slots of a task, but for the limit of its period, which is the base's
pub record IsInSlots (s : Slotted) : Type 0 where
  pub some : 1 ≤ s.cost
  pub within : s.cost ≤ s.period
  pub join : s.join < WIDE_HORIZON
  pub early : s.early ≤ MOST_EARLY

some_cost : (q : Quantum) (arrivals : Arrivals) (t : Timed) → IsQuantum q → 1 ≤ t.work → 1 ≤ (slots_of q arrivals t).cost
some_cost q arrivals t is works =
    let part : ℕ = q.length - q.switch in
    let some : 1 ≤ part = omega (arith, is.switch) in
    by (div_ceil t.work part) (div_ceil_times t.work part some).0
  where
    by : (c : ℕ) → t.work ≤ c * (q.length - q.switch) → 1 ≤ c
    by zero covers = absurd (omega (arith, covers, works))
    by (suc c) covers = omega arith

in_slots : (q : Quantum) (arrivals : Arrivals) (t : Timed) (s : Slotted) → IsQuantum q → 1 ≤ t.work → slots_or_fault q arrivals t ≡ Ok s → IsInSlots s
in_slots q arrivals t s is works e =
    let v : Slotted = slots_of q arrivals t in
    let first = unless_ok (v.period == 0) _ DueTooSoon s e in
    let second = unless_ok (nat_lt v.period v.cost) _ (CostAbovePeriod v.cost v.period) s first.1 in
    let third = unless_ok (nat_le WIDE_HORIZON v.join) _ (JoinBeyondHorizon v.join) s second.1 in
    let fourth = unless_ok (nat_lt MOST_EARLY v.early) _ (TooEarly v.early) s third.1 in
    let fifth = unless_ok (runs_before_arrival arrivals v.early) (Ok v) BeforeArrival s fourth.1 in
    let same : v ≡ s = let all = fifth.1 in cc in
    let below = second.0 in
    let join = third.0 in
    let early = fourth.0 in
    subst IsInSlots same (record {
      some = some_cost q arrivals t is works;
      within = grind (arith, nat_tests, below);
      join = grind (arith, nat_tests, join);
      early = grind (arith, nat_tests, early);
    })

-- the tasks that have slots
slots_all : (q : Quantum) (arrivals : Arrivals) (tasks : List Listed) → IsQuantum q → All (λ t. 1 ≤ t.times.work) tasks → All IsInSlots (slots_in q arrivals tasks)
slots_all q arrivals [] is works = All-nil IsInSlots
slots_all q arrivals (t ∷ ts) is works =
    All-append IsInSlots (slots_given (slots_or_fault q arrivals t.times)) (slots_in q arrivals ts) (by (slots_or_fault q arrivals t.times) refl)
    (slots_all q arrivals ts is (All-tail (λ u. 1 ≤ u.times.work) t ts works))
  where
    by : (r : Result Slotted SlotFault) → slots_or_fault q arrivals t.times ≡ r → All IsInSlots (slots_given r)
    by (Ok s) e = All-cons IsInSlots s [] (in_slots q arrivals t.times s is (All-head (λ u. 1 ≤ u.times.work) t ts works) e) (All-nil IsInSlots)
    by (Err fault) e = All-nil IsInSlots

slots_few : (q : Quantum) (arrivals : Arrivals) (tasks : List Listed) → length (slots_in q arrivals tasks) ≤ length tasks
slots_few q arrivals [] = omega arith
slots_few q arrivals (t ∷ ts) =
    omega (arith, length-append (slots_given (slots_or_fault q arrivals t.times)) (slots_in q arrivals ts), one (slots_or_fault q arrivals t.times), slots_few q arrivals ts)
  where
    one : (r : Result Slotted SlotFault) → length (slots_given r) ≤ 1
    one (Ok s) = omega arith
    one (Err fault) = omega arith

slotted : (base : ℕ) (s : Slotted) → IsInSlots s → s.period ≤ base → base ≤ LARGEST_BASE → IsSlotted s
slotted base s is within low = record {
  some = is.some;
  within = is.within;
  short = omega (arith, within, low);
  join = is.join;
  early = is.early;
}

-- what a plan's tasks keep
pub record KeepsSlots (plan : Plan) (count : ℕ) : Type 0 where
  pub some : 1 ≤ plan.base
  pub within : plan.base ≤ LARGEST_BASE
  pub slotted : All IsSlotted plan.tasks.items
  pub periods : All (λ s. s.period ≤ plan.base) plan.tasks.items
  pub few : length plan.tasks.items ≤ count

exact_keeps : (slots : List Slotted) (plan : Plan) → All IsInSlots slots → IsExact slots plan → KeepsSlots plan (length slots)
exact_keeps slots plan are is = record {
  some = is.least.some;
  within = is.least.within;
  slotted = subst (All IsSlotted) (sym is.same) (λ k d lt. slotted plan.base (get_or slots k d) (are k d lt) (low k d lt) is.least.within);
  periods = subst (All (λ s. s.period ≤ plan.base)) (sym is.same) low;
  few = subst (λ (xs : List Slotted). length xs ≤ length slots) (sym is.same) (omega arith);
}
  where
    low : All (λ s. s.period ≤ plan.base) slots
    low k d lt = multiple_is_no_less plan.base (get_or slots k d).period is.least.some (is.least.common k d lt)

rounded_keeps : (slots : List Slotted) (plan : Plan) → All IsInSlots slots → IsRounded slots plan → KeepsSlots plan (length slots)
rounded_keeps slots plan are is = record {
  some = smooth_some plan.base is.best.smooth;
  within = is.best.within;
  slotted = subst (All IsSlotted) (sym is.over.rounds) (All-map IsSlotted (rounded_task plan.base) slots each);
  periods = subst (All (λ s. s.period ≤ plan.base)) (sym is.over.rounds) (All-map (λ s. s.period ≤ plan.base) (rounded_task plan.base) slots low);
  few = subst (λ (xs : List Slotted). length xs ≤ length slots) (sym is.over.rounds) (as_many slots);
}
  where
    as_many : (xs : List Slotted) → length (map (rounded_task plan.base) xs) ≤ length xs
    as_many [] = omega arith
    as_many (x ∷ xs) = omega (arith, as_many xs)

    low : All (λ s. (rounded_task plan.base s).period ≤ plan.base) slots
    low k d lt =
        let s = get_or slots k d in
        let in_slots = are k d lt in
        multiple_is_no_less plan.base (rounded plan.base s.period) (smooth_some plan.base is.best.smooth)
        (rounded_is plan.base s.period (omega (arith, in_slots.some, in_slots.within))).divides

    each : All (λ s. IsSlotted (rounded_task plan.base s)) slots
    each k d lt =
        let s = get_or slots k d in
        let in_slots = are k d lt in
        slotted plan.base (rounded_task plan.base s) (record {
          some = in_slots.some;
          within = is.best.holds k d lt;
          join = in_slots.join;
          early = in_slots.early;
        }) (low k d lt) is.best.within

keeps : (slots : List Slotted) (plan : Plan) → All IsInSlots slots → IsPlanned slots (Some plan) → KeepsSlots plan (length slots)
keeps slots plan are (inl exact) = exact_keeps slots plan are exact
keeps slots plan are (inr rounds) = rounded_keeps slots plan are rounds

-- a plan over a base is measured
sum_rounded : (base : ℕ) (slots : List Slotted) → sum_by (λ s. s.cost * (base / s.period)) (map (rounded_task base) slots) ≡ load_over base slots
sum_rounded base [] = refl
sum_rounded base (s ∷ slots) =
    omega (
      arith,
      sum_by-cons (λ (t : Slotted). t.cost * (base / t.period)) (rounded_task base s) (map (rounded_task base) slots),
      sum_by-cons (λ (t : Slotted). t.cost * (base / rounded base t.period)) s slots,
      sum_rounded base slots,
    )

over_measured : (slots : List Slotted) (plan : Plan) → All IsInSlots slots → IsOver plan.base slots plan → IsMeasured plan
over_measured slots plan are over = record {
  divides = subst (All (λ s. plan.base % s.period ≡ 0)) (sym over.rounds)
      (All-map (λ s. plan.base % s.period ≡ 0) (rounded_task plan.base) slots
      (λ k d lt. let s = are k d lt in (rounded_is plan.base (get_or slots k d).period (omega (arith, s.some, s.within))).divides));
  asks = over.asks ∙ sym (ap (sum_by (λ s. s.cost * (plan.base / s.period))) over.rounds ∙ sum_rounded plan.base slots);
}

measured : (slots : List Slotted) (plan : Plan) → All IsInSlots slots → IsPlanned slots (Some plan) → IsMeasured plan
measured slots plan are (inl exact) = over_measured slots plan are exact.over
measured slots plan are (inr rounds) = over_measured slots plan are rounds.over

-- what a quantum that has a plan gives
pub record Plans (q : Quantum) (slots : List Slotted) (plan : Plan) (needed : ℕ) (p : Planned) : Type 0 where
  pub quantum : p.quantum ≡ q
  pub planned : IsPlanned slots (Some plan)
  pub needs : IsNeeded plan.base plan.load needed

plans_of : (q : Quantum) (slots : List Slotted) (faults : List PlanFault) (plan : Plan) (needed : ℕ) (p : Planned) → IsPlannedWith q slots faults p
    → p.plan ≡ Some plan → p.needed ≡ Some needed → Plans q slots plan needed p
plans_of q slots [] plan needed p is e f = record {
  quantum = is.quantum;
  planned = subst (IsPlanned slots) e is.planned;
  needs = subst₂ NeedsFor e f is.needs;
}
plans_of q slots (fault ∷ faults) plan needed p is e f = let none = is.planned in let bad : Some plan ≡ None = sym e ∙ none in cc

module _ (terms : Terms) (q : Quantum) (given : List ℕ) (tasks : List Listed) (is : IsQuantum q) (is_given : (given ≡ []) ⊎ (given ≡ q.length ∷ []))
    (some : AreSome terms.processors) (told : AreTold tasks) (few : length tasks ≤ LARGEST_TASK) where
  abbrev slots : List Slotted
  slots = slots_in q terms.arrivals tasks

  written : (m : ℕ) (plan : Plan) → 1 ≤ m → m ≤ 64 → IsPlanned slots (Some plan) → IsWritten m q.length tasks plan
  written m plan some_processors few_processors planned =
      let kept = keeps slots plan (slots_all q terms.arrivals tasks is told.works) planned in
      record {
        some_processors = some_processors;
        few_processors = few_processors;
        some_time = omega (arith, is.switch);
        short = is.length;
        some_base = kept.some;
        base = kept.within;
        few = few;
        few_joins = omega (arith, kept.few, slots_few q terms.arrivals tasks, few);
        names = told.names;
        slotted = kept.slotted;
        periods = kept.periods;
      }

  writes : (unit : Unit) (last : List ℕ) (m : ℕ) (plan : Plan) (a : Answer) → 1 ≤ m → m ≤ 64 → IsPlanned slots (Some plan)
      → IsPlanAnswer unit m q.length tasks plan last a → WritesPlan given tasks a
  writes unit last m plan a some_processors few_processors planned answers = record {
    quantum = q.length;
    given = is_given;
    processors = m;
    plan = plan;
    written = written m plan some_processors few_processors planned;
    measured = measured slots plan (slots_all q terms.arrivals tasks is told.works) planned;
    text = answers.text;
    status = answers.status;
  }

  on_processors : (f : ListFile) (last : List ℕ) (o : Option ℕ) (plan : Plan) (needed : ℕ) (a : Answer) → AreSome o → IsPlanned slots (Some plan)
      → IsNeeded plan.base plan.load needed → OnProcessors f q.length tasks plan needed last o a → WritesNothing a ⊎ WritesPlan given tasks a
  on_processors f last (Some m) plan needed a are planned needs on = inr (writes f.unit last m plan a are.0 are.1 planned on)
  on_processors f last None plan needed a are planned needs on = by (nat_lt 64 needed) refl on
    where
      by : (b : Bool) → nat_lt 64 needed ≡ b → MatchBool b (IsTold (too_many_text f needed) a) (IsPlanAnswer f.unit needed q.length tasks plan last a)
          → WritesNothing a ⊎ WritesPlan given tasks a
      by true many t = inl (record { text = t.text; status = t.status })
      by false within t = inr (writes f.unit last needed plan a needs.some (grind (arith, nat_tests, within)) planned t)

  script_for : (f : ListFile) (tried : Option ℕ) (p : Planned) (a : Answer) (o : Option Plan) (n : Option ℕ) → p.plan ≡ o → p.needed ≡ n
      → IsPlannedAt q terms.arrivals tasks p → ScriptFor f terms tried tasks p o n a → WritesNothing a ⊎ WritesPlan given tasks a
  script_for f tried p a None n e g at for = inl (record { text = for.text; status = for.status })
  script_for f tried p a (Some plan) None e g at for = inl (record { text = for.text; status = for.status })
  script_for f tried p a (Some plan) (Some needed) e g at for =
      let plans = plans_of q slots (slot_faults q terms.arrivals tasks) plan needed p at e g in
      on_processors f (tried_line f.unit q.length terms.processors needed tried) terms.processors plan needed a some plans.planned plans.needs
      (subst (λ (v : Quantum).
      OnProcessors f v.length tasks plan needed (tried_line f.unit v.length terms.processors needed tried) terms.processors a) plans.quantum for)

module _ (terms : Terms) (given : List ℕ) (tasks : List Listed) (some : AreSome terms.processors) (told : AreTold tasks) (few : length tasks ≤ LARGEST_TASK)
    (f : ListFile) (all : List Planned) (a : Answer) (found : ArePlannedIn terms given tasks all) where
  within : (i : ℕ) → IsShownQuantum terms.processors (map outcome_of all) i → i < length all
  within i (inl best) = omega (arith, best.within, length-map all outcome_of)
  within i (inr none) = omega (arith, none.1.within, length-map all outcome_of)

  shown : (place : Option ℕ) → MatchOption place (length (map outcome_of all) ≡ 0) (IsShownQuantum terms.processors (map outcome_of all))
      → ScriptShown f terms (tried_of given all) tasks all place a → WritesNothing a ⊎ WritesPlan given tasks a
  shown None is t = inl (record { text = t.text; status = t.status })
  shown (Some i) is (p, same, for) =
      let lt : i < length all = within i is in
      let lt_quanta : i < length found.quanta = omega (arith, lt, found.planned.as_many) in
      let q : Quantum = quantum_of terms.switch (slice_index found.quanta i) in
      script_for terms q given tasks (record { switch = found.longer i 0 lt_quanta; length = found.short i 0 lt_quanta }) (found.is_given i lt_quanta) some told few
      f (tried_of given all) p a p.plan p.needed refl refl
      (subst (IsPlannedAt q terms.arrivals tasks) (sym same) (found.planned.each i p lt)) for

module _ (name : List ℕ) (c : Conversion) (text : List ℕ) (a : Answer) (is : IsConversion c) (some : AreSome c.processors) (script : c.format ≡ Script) where
  answered : (told : ListTold) (faults : List Told) → IsFewTold LARGEST_TASK told → AnswersList name text c told faults a
      → WritesNothing a ⊎ WritesPlan c.quanta told.tasks a
  answered told [] few answer =
      let made : IsScriptAnswer answer.file (terms_of c) c.quanta told.tasks answer.all a =
      subst (λ format. IsAnswerIn format answer.file c told.tasks answer.all a) script answer.answers in
      shown (terms_of c) c.quanta told.tasks some few.tasks few.few answer.file answer.all a
      (planned_in (terms_of c) c.quanta told.tasks answer.all is.longer is.short (is.one script) answer.planned) made.place made.is_shown made.shows
  answered told (fault ∷ faults) few t = inl (record { text = t.text; status = t.status })

pub lists_become_plans : ListsBecomePlans
lists_become_plans name c list a is some script made =
    answered name c list a is some script (list_told name c.unit list) (list_told name c.unit list).faults (list_is_told name c.unit list) made
