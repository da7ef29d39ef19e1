-- The records of a plan's script, all of them.
use Rattle.std.proofs.Common.{◌≡◌, ◌^◌, ◌≤◌, ◌+◌, ◌%◌, ◌==◌, ℕ, true, None, List, [], ◌∷◌, ◌++◌, All, length, arith, refl, inl, inr}
use Rattle.std.proofs.lemmas.Bool.{cases_Bool, eqb-true}
use Rattle.std.proofs.lemmas.List.Elements.{All-head, All-tail}
use Rattle.pf_convert.specs.declared.slotted.Slotted.{Slotted}
use Rattle.pf_convert.specs.Slots.{IsSlotted}
use Rattle.pf_scenario.specs.System.{wide_horizon}
use Rattle.pf_script.specs.declared.line.Line.TheVariants.{Steps}
use Rattle.pf_script.specs.declared.plan.said.Said.{Said}
use Rattle.pf_script.specs.declared.plan.said.Said.TheVariants.{Asks}
use Rattle.pf_script.specs.declared.plan.state.Progress.{Progress}
use Rattle.pf_script.specs.Plan.Progress.{at_heading, progress_after}
use Rattle.pf_convert.specs.Conversion.Script.{slot_of, steps_of}
use Rattle.pf_script_laws.specs.Conversions.Records.{each_numbered, join_record, step_record}
use Rattle.pf_script_laws.specs.Conversions.Read.{AllSay, ScriptsSayTheirPlans, join_said, settings_said, slot_said}
use Rattle.pf_script_laws.proofs.ConversionsLemmas.Fields.{AreShort, join_says, settings_say, slot_says, steps_say}
use Rattle.pf_script_laws.proofs.ConversionsLemmas.Named.{names_say, none_given}

pub short_join : (base number : ℕ) (s : Slotted) → IsSlotted s → s.period ≤ base → base ≤ 2 ^ 30 → number ≤ 4095 → AreShort number s
short_join base number s slotted within low most = record {
  number = omega (arith, most);
  join = omega (arith, slotted.join);
  cost = omega (arith, slotted.within, within, low);
  period = omega (arith, within, low);
  early = omega (arith, slotted.early);
}

-- the joins of tasks, and what follows them
joins_say : (p : Progress) (base number : ℕ) (slots : List Slotted) (records : List (List (List ℕ))) (saids : List Said) → p.opened ≡ true → base ≤ 2 ^ 30
    → number + length slots ≤ 4096 → All IsSlotted slots → All (λ s. s.period ≤ base) slots → ((q : Progress) → q.opened ≡ true → AllSay q records saids)
    → AllSay p (each_numbered join_record number slots ++ records) (each_numbered join_said number slots ++ saids)
unfolding AllSay each_numbered
joins_say p base number [] records saids opened low few slotted within more = more p opened
joins_say p base number (s ∷ slots) records saids opened low few slotted within more = (
  join_says p number s opened
      (short_join base number s (All-head IsSlotted s slots slotted) (All-head (λ t. t.period ≤ base) s slots within) low (omega (arith, few))),
  joins_say (progress_after p (join_said number s) 0) base (number + 1) slots records saids opened low (omega (arith, few))
      (All-tail IsSlotted s slots slotted) (All-tail (λ t. t.period ≤ base) s slots within) more,
)

-- how long a slot is
pub slot_within : (q : ℕ) → 1 ≤ q → q ≤ 1000000000 → (1 ≤ (slot_of q).0) × ((slot_of q).0 ≤ 1000000000)
slot_within q some most = elim (cases_Bool (q % 1000000000 == 0)) [
  | inl second ↦ let whole : q % 1000000000 ≡ 0 = eqb-true (q % 1000000000) 0 second in rw second (omega (arith, whole, some, most), omega (arith, most))
  | inr no_second ↦ elim (cases_Bool (q % 1000000 == 0)) [
    | inl milli ↦ let whole : q % 1000000 ≡ 0 = eqb-true (q % 1000000) 0 milli in rw (no_second, milli) (omega (arith, whole, some, most), omega (arith, most))
    | inr no_milli ↦ elim (cases_Bool (q % 1000 == 0)) [
      | inl micro ↦ let whole : q % 1000 ≡ 0 = eqb-true (q % 1000) 0 micro in rw (no_second, no_milli, micro) (omega (arith, whole, some, most), omega (arith, most))
      | inr no_micro ↦ rw (no_second, no_milli, no_micro) (some, most)
    ]
  ]
]

end_told : (p : Progress) → p.opened ≡ true → AllSay p [] []
unfolding AllSay
end_told p opened = rw opened refl

pub steps_within : (base : ℕ) (slots : List Slotted) → 1 ≤ base → (1 ≤ steps_of base slots) × (steps_of base slots ≤ wide_horizon)
steps_within base slots some = (omega (arith, some), omega arith)

pub plans_said : ScriptsSayTheirPlans
unfolding AllSay
plans_said m q tasks plan w =
    let slot = slot_within q w.some_time w.short in
    let steps = steps_within plan.base plan.tasks.items w.some_base in
    let opened = progress_after at_heading (settings_said m plan.base) 0 in
    let slotted = progress_after opened (slot_said (slot_of q)) 0 in
    let last = step_record (steps_of plan.base plan.tasks.items) ∷ [] in
    let last_said = Asks (Steps (steps_of plan.base plan.tasks.items)) None ∷ [] in
    let slots = plan.tasks.items in (
      settings_say m plan.base w.some_processors w.few_processors w.some_base w.base,
      (
        slot_says opened (slot_of q).0 (slot_of q).1 refl refl refl slot.0 slot.1,
        names_say slotted 1 tasks (each_numbered join_record 1 slots ++ last) (each_numbered join_said 1 slots ++ last_said) refl (omega arith) (omega (arith, w.few)) w.names (none_given tasks)
            (λ p is. joins_say p plan.base 1 slots last last_said is w.base (omega (arith, w.few_joins)) w.slotted w.periods
            (λ r so. (steps_say r (steps_of plan.base plan.tasks.items) so steps.0 steps.1, end_told (progress_after r (Asks (Steps (steps_of plan.base plan.tasks.items)) None) 0) so))),
      ),
    )
