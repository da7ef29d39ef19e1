-- What quanta give is ready to be shown: plans of all tasks of the list, over their bases.
use Rattle.std.proofs.Common.{◌≡◌, ℕ, zero, suc, ◌/◌, ◌%◌, ◌<◌, ◌≤◌, inl, inr, Bool, true, false, List, [], ◌∷◌, ◌++◌, map, length, get_or, Option, None, Some, MatchOption, Result, Ok, Err, refl, sym, ◌∙◌, ap, subst, arith}
use Rattle.std.specs.Prelude.{⊤, All, ◌==◌, if◌then◌else◌, slice_index}
use Rattle.std.proofs.Math.Nat.{div-le_self}
use Rattle.std.proofs.lemmas.List.{length-map}
use Rattle.std.proofs.lemmas.Bool.{and_parts, cond_both, eqb-true, ltb-true}
use Rattle.std.proofs.lemmas.List.Elements.{All-append, All-cons}
use Rattle.std.specs.Bool.{MatchBool}
use Rattle.pf_weight.specs.declared.task.TheConstants.{LARGEST_TASK}
use Rattle.pf_convert.specs.declared.conversion.planned.Planned.{Planned}
use Rattle.pf_convert.specs.declared.list.listed.Listed.{Listed}
use Rattle.pf_convert.specs.declared.plan.Plan.{Plan}
use Rattle.pf_convert.specs.declared.plan_fault.PlanFault.{PlanFault}
use Rattle.pf_convert.specs.declared.quantum.Quantum.{Quantum}
use Rattle.pf_convert.specs.declared.quantum.TheConstants.{LONGEST_QUANTUM}
use Rattle.pf_convert.specs.declared.slot_fault.SlotFault.{SlotFault}
use Rattle.pf_convert.specs.declared.slotted.Slotted.{Slotted}
use Rattle.pf_convert.specs.declared.terms.Terms.{Terms}
use Rattle.pf_convert.specs.declared.words.arrivals.Arrivals.{Arrivals}
use Rattle.pf_convert.specs.Conversion.Planned.{HoldsPlan, HoldsTasks, IsPlanned, IsPlannedAt, IsPlannedWith, NeedsFor}
use Rattle.pf_convert.specs.Conversion.Series.{ArePlanned, ArePlannedFor, HoldAll, quantum_of, shortest_time}
use Rattle.pf_convert.specs.Conversion.Slots.{fault_of, slot_faults, slots_given, slots_in}
use Rattle.pf_convert.specs.Fit.Answers.{IsReady, IsReadyPlan}
use Rattle.pf_convert.specs.Margins.Fitting.{IsPlan}
use Rattle.pf_convert.specs.Multiples.{IsCommon}
use Rattle.pf_convert.specs.Plans.{IsOver, rounded_task}
use Rattle.pf_convert.specs.Quotients.{all_quotients, is_tried, quotients_to, whole_quotients}
use Rattle.pf_convert.specs.Rounding.{load_over, rounded}
use Rattle.pf_convert.specs.Slots.{IsQuantum, IsSlotted, slots_or_fault}
use Rattle.pf_convert.proofs.ConversionLemmas.Shortest.{shortest_short}
use Rattle.pf_convert.proofs.MarginsLemmas.Bases.{load_unrounded}

-- a period that is rounded to some divisor of the base
rounded_divides : (base period : ℕ) → 1 ≤ rounded base period → base % rounded base period ≡ 0
unfolding rounded
rounded_divides base zero some = absurd (omega (arith, some))
rounded_divides base (suc p) some = by (base % suc p == 0) (λ yes. eqb-true (base % suc p) 0 yes) (rounded_divides base p) some
  where
    by : (b : Bool) → (b ≡ true → base % suc p ≡ 0) → (1 ≤ rounded base p → base % rounded base p ≡ 0) → 1 ≤ (if b then suc p else rounded base p)
        → base % (if b then suc p else rounded base p) ≡ 0
    by true divides h some = divides refl
    by false divides h some = h some

comes : (t : Slotted) → IsSlotted t → 1 ≤ t.period
comes t s = omega (arith, s.some, s.within)

-- tasks over a base divide it
over_common : (base : ℕ) (tasks : List Slotted) → All IsSlotted (map (rounded_task base) tasks) → IsCommon (map (rounded_task base) tasks) base
over_common base [] slotted = λ k d lt. absurd (omega (arith, lt))
over_common base (t ∷ ts) slotted =
    All-cons (λ (s : Slotted). base % s.period ≡ 0) (rounded_task base t) (map (rounded_task base) ts)
    (rounded_divides base t.period (comes (rounded_task base t) (slotted 0 t (omega arith))))
    (over_common base ts (λ k d lt. slotted (suc k) d (omega (arith, lt))))

over_is_plan : (slots : List Slotted) (plan : Plan) → IsOver plan.base slots plan → HoldsTasks plan → length slots ≤ LARGEST_TASK → IsPlan plan
over_is_plan slots plan over holds few =
    let slotted : All IsSlotted (map (rounded_task plan.base) slots) = subst (All IsSlotted) over.rounds holds.slotted in
    record {
      some = holds.some;
      within = holds.within;
      few = subst (λ n. n ≤ LARGEST_TASK) (sym (ap length over.rounds ∙ length-map slots (rounded_task plan.base))) few;
      slotted = holds.slotted;
      common = subst (λ tasks. IsCommon tasks plan.base) (sym over.rounds) (over_common plan.base slots slotted);
      asks = over.asks ∙ sym (ap (load_over plan.base) over.rounds ∙ load_unrounded plan.base slots);
    }

over_is_ready : (listed : List Listed) (slots : List Slotted) (plan : Plan) (needed : Option ℕ) → IsOver plan.base slots plan → HoldsTasks plan
    → NeedsFor (Some plan) needed → length slots ≡ length listed → length listed ≤ LARGEST_TASK → IsReadyPlan listed plan needed
over_is_ready listed slots plan needed over holds needs as_many few = record {
  is_plan = over_is_plan slots plan over holds (omega (arith, as_many, few));
  as_many = sym (ap length over.rounds ∙ length-map slots (rounded_task plan.base) ∙ as_many);
  needs = needs;
}

plan_ready : (listed : List Listed) (slots : List Slotted) (plan : Option Plan) (needed : Option ℕ) → IsPlanned slots plan → HoldsPlan plan
    → NeedsFor plan needed → length slots ≡ length listed → length listed ≤ LARGEST_TASK → MatchOption plan ⊤ (λ p. IsReadyPlan listed p needed)
plan_ready listed slots None needed planned holds needs as_many few = tt
plan_ready listed slots (Some plan) needed planned holds needs as_many few =
    elim planned [
      | inl exact ↦ over_is_ready listed slots plan needed exact.over holds needs as_many few
      | inr best ↦ over_is_ready listed slots plan needed best.over holds needs as_many few
    ]

-- without a fault each task has its slots
one_each : (q : Quantum) (arrivals : Arrivals) (tasks : List Listed) → slot_faults q arrivals tasks ≡ [] → length (slots_in q arrivals tasks) ≡ length tasks
one_each q arrivals [] none = refl
one_each q arrivals (task ∷ tasks) none = by (slots_or_fault q arrivals task.times) none (one_each q arrivals tasks)
  where
    by : (r : Result Slotted SlotFault) → fault_of task r ++ slot_faults q arrivals tasks ≡ []
        → (slot_faults q arrivals tasks ≡ [] → length (slots_in q arrivals tasks) ≡ length tasks)
        → length (slots_given r ++ slots_in q arrivals tasks) ≡ suc (length tasks)
    by (Ok slots) none more = ap suc (more none)
    by (Err fault) none more = cc

ready_with : (listed : List Listed) (q : Quantum) (slots : List Slotted) (faults : List PlanFault) (p : Planned) → IsPlannedWith q slots faults p → HoldsPlan p.plan
    → IsQuantum q → (faults ≡ [] → length slots ≡ length listed) → length listed ≤ LARGEST_TASK → IsReady listed p
ready_with listed q slots [] p h holds is as_many few = record {
  quantum = subst IsQuantum (sym h.quantum) is;
  plan = plan_ready listed slots p.plan p.needed h.planned holds h.needs (as_many refl) few;
}
ready_with listed q slots (fault ∷ faults) p h holds is as_many few = record {
  quantum = subst IsQuantum (sym h.quantum) is;
  plan = subst (λ (plan : Option Plan). MatchOption plan ⊤ (λ p'. IsReadyPlan listed p' p.needed)) (sym h.planned) tt;
}

ready_at : (listed : List Listed) (q : Quantum) (arrivals : Arrivals) (p : Planned) → IsPlannedAt q arrivals listed p → HoldsPlan p.plan → IsQuantum q
    → length listed ≤ LARGEST_TASK → IsReady listed p
ready_at listed q arrivals p h holds is few =
    ready_with listed q (slots_in q arrivals listed) (slot_faults q arrivals listed) p h holds is (one_each q arrivals listed) few

ready_planned : (terms : Terms) (listed : List Listed) (quanta : List ℕ) (all : List Planned) → ArePlanned terms listed quanta all → HoldAll all
    → All (λ n. IsQuantum (quantum_of terms.switch n)) quanta → length listed ≤ LARGEST_TASK → All (IsReady listed) all
ready_planned terms listed quanta all h holds are few = λ k d lt.
    ready_at listed (quantum_of terms.switch (slice_index quanta k)) terms.arrivals (get_or all k d) (h.each k d lt) (holds k d lt)
    (are k 0 (omega (arith, lt, h.as_many))) few

-- quotients above the switch are quanta
quotients_are_quanta : (whole : Bool) (switch time n : ℕ) → time ≤ LONGEST_QUANTUM → All (λ q. IsQuantum (quantum_of switch q)) (quotients_to whole switch time n)
unfolding quotients_to
quotients_are_quanta whole switch time zero le = λ k d lt. absurd (omega (arith, lt))
quotients_are_quanta whole switch time (suc n) le =
    All-append (λ q. IsQuantum (quantum_of switch q)) (quotients_to whole switch time n) (if is_tried whole switch time (suc n) then time / suc n ∷ [] else [])
    (quotients_are_quanta whole switch time n le)
    (cond_both (is_tried whole switch time (suc n)) (time / suc n ∷ []) [] (All (λ q. IsQuantum (quantum_of switch q)))
    (λ yes. All-cons (λ q. IsQuantum (quantum_of switch q)) (time / suc n) [] (record {
      switch = ltb-true switch (time / suc n) (and_parts _ _ yes).0;
      length = omega (arith, div-le_self time (suc n), le);
    }) (λ k d lt. absurd (omega (arith, lt))))
    (λ no. λ k d lt. absurd (omega (arith, lt))))

given_are_quanta : (switch : ℕ) (quanta : List ℕ) → All (λ q. switch < q) quanta → All (λ q. q ≤ LONGEST_QUANTUM) quanta → All (λ q. IsQuantum (quantum_of switch q)) quanta
given_are_quanta switch quanta longer short = λ k d lt. record { switch = longer k d lt; length = short k d lt }

-- Use: what the quanta give that are planned for.
pub all_ready : (terms : Terms) (listed : List Listed) (quanta : List ℕ) (all : List Planned) → ArePlannedFor terms quanta listed all → HoldAll all
    → All (λ q. terms.switch < q) quanta → All (λ q. q ≤ LONGEST_QUANTUM) quanta → length listed ≤ LARGEST_TASK → All (IsReady listed) all
all_ready terms listed [] all h holds longer short few = by h.enough h.gives
  where
    by : (enough : Bool) → MatchBool enough (all ≡ h.whole) (ArePlanned terms listed (all_quotients terms.switch (shortest_time listed)) all) → All (IsReady listed) all
    by true same =
        ready_planned terms listed (whole_quotients terms.switch (shortest_time listed)) all
        (subst (ArePlanned terms listed (whole_quotients terms.switch (shortest_time listed))) (sym same) h.planned) holds
        (quotients_are_quanta true terms.switch (shortest_time listed) 64 (shortest_short listed)) few
    by false planned =
        ready_planned terms listed (all_quotients terms.switch (shortest_time listed)) all planned holds
        (quotients_are_quanta false terms.switch (shortest_time listed) 64 (shortest_short listed)) few
all_ready terms listed (quantum ∷ quanta) all h holds longer short few =
    ready_planned terms listed (quantum ∷ quanta) all h holds (given_are_quanta terms.switch (quantum ∷ quanta) longer short) few
