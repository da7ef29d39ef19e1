-- The desk at the end of a plan's script: what it holds, and that nothing was refused.
use Rattle.std.proofs.Common.{◌≡◌, ◌∙◌, ◌+◌, ◌*◌, ◌/◌, ◌%◌, ◌<◌, ◌≤◌, ℕ, List, [], ◌∷◌, ◌++◌, All, replicate, sum_by, arith, refl, sym, ap, subst, append_assoc, append-nil}
use Rattle.std.specs.Prelude.{max}
use Rattle.std.proofs.lemmas.List.Elements.{All-cons, All-head, All-nil, All-tail, All-weaker}
use Rattle.std.proofs.lemmas.List.Sums.{sum_by-cons}
use Rattle.pf_convert.specs.declared.plan.Plan.{Plan}
use Rattle.pf_convert.specs.declared.slotted.Slotted.{Slotted}
use Rattle.pf_convert.specs.Slots.{IsSlotted}
use Rattle.pf_scenario.specs.System.{System}
use Rattle.pf_scenario.specs.Event.{slot_of}
use Rattle.pf_scenario.specs.Scenario.{with_number}
use Rattle.pf_scenario.specs.declared.event.Numbered.{Numbered}
use Rattle.pf_desk.specs.declared.command.Command.TheVariants.{Step}
use Rattle.pf_desk.specs.declared.entry.Entry.{Entry}
use Rattle.pf_desk.specs.Machine.{State}
use Rattle.pf_desk.specs.History.{IsLegal, IsLegalFrom, last_state, state_behind}
use Rattle.pf_convert.specs.declared.list.listed.Listed.{Listed}
use Rattle.pf_script_run.specs.Carried.{asked_in}
use Rattle.pf_convert.specs.Conversion.Script.{last_join, steps_of}
use Rattle.pf_script_laws.specs.Conversions.Records.{each_numbered}
use Rattle.pf_script_laws.specs.Conversions.Read.{IsWritten}
use Rattle.pf_script_laws.specs.Conversions.Written.{IsMeasured}
use Rattle.pf_script_laws.proofs.ConversionsLemmas.Saying.{steps_within}
use Rattle.pf_laws.specs.Joins.Joins.{IsJoin, units_asked, units_of}
use Rattle.pf_script_laws.specs.PlanFits.Laws.{IsTaken, PlansAreTaken, plan_commands, plan_settings}
use Rattle.pf_script_laws.proofs.PlanFitsLemmas.Answered.{IsJoinBelow, IsTakable, behind_joins, join_event, joins_answered, state_with, steps_answered}

-- the events that the joins make
abbrev pub held_join : ℕ → Slotted → Numbered
held_join number s = with_number number (join_event number s)

abbrev pub held : ℕ → List Slotted → List Numbered
held number slots = each_numbered held_join number slots

-- the next number after them
abbrev pub next_behind : ℕ → List Slotted → ℕ
next_behind number [] = number
next_behind number (s ∷ slots) = next_behind (number + 1) slots

behind_is : (settings : System) (events : List Numbered) (number : ℕ) (slots : List Slotted)
    → behind_joins settings events number slots ≡ state_with settings (events ++ held number slots) (next_behind number slots) 0
unfolding each_numbered
behind_is settings events number [] = ap (λ (xs : List Numbered). state_with settings xs number 0) (sym (append-nil events))
behind_is settings events number (s ∷ slots) =
    behind_is settings (events ++ held_join number s ∷ []) (number + 1) slots
    ∙ ap (λ (xs : List Numbered). state_with settings xs (next_behind (number + 1) slots) 0) (append_assoc events (held_join number s ∷ []) (held (number + 1) slots))

-- the state at the end, and that each command was taken
pub record EndsAt (m : ℕ) (plan : Plan) (history : List Entry) : Type 0 where
  pub state : last_state (plan_settings m plan.base) history
      ≡ state_with (plan_settings m plan.base) (held 1 plan.tasks.items) (next_behind 1 plan.tasks.items) (steps_of plan.base plan.tasks.items)
  pub taken : All (λ e. IsTaken e.reply) history

takable : (base : ℕ) (slots : List Slotted) → All IsSlotted slots → All (λ s. base % s.period ≡ 0) slots → All (IsTakable base) slots
takable base slots slotted divides k d lt = record { slotted = slotted k d lt; divides = divides k d lt }

pub ends_at : (m quantum : ℕ) (tasks : List Listed) (plan : Plan) (history : List Entry) → IsWritten m quantum tasks plan → IsMeasured plan
    → IsLegal (plan_settings m plan.base) history → asked_in history ≡ plan_commands plan → EndsAt m plan history
ends_at m quantum tasks plan history written measured legal asked =
    let slots = plan.tasks.items in
    let settings = plan_settings m plan.base in
    let n = steps_of plan.base slots in
    let joins = joins_answered m plan.base 1 [] slots (replicate n Step) history
    (record { some = omega arith; joins = All-nil (λ x. IsJoinBelow 1 x.event); count = refl })
    (takable plan.base slots written.slotted measured.divides) (omega (arith, written.few_joins)) legal asked in
    let at = behind_is settings [] 1 slots in
    let steps = steps_answered settings (held 1 slots) (next_behind 1 slots) 0 n joins.0 (omega (arith, (steps_within plan.base slots written.some_base).1))
    (subst (λ (q : State). IsLegalFrom q joins.0) at joins.1.legal) joins.1.asked in
    let none : 0 + n ≡ n = omega arith in
    record {
      state = joins.1.behind ∙ ap (λ (q : State). state_behind q joins.0) at ∙ steps.behind
          ∙ ap (λ (t : ℕ). state_with settings (held 1 slots) (next_behind 1 slots) t) none;
      taken = joins.1.taken (steps.taken (All-nil (λ e. IsTaken e.reply)));
    }

pub plans_are_taken : PlansAreTaken
plans_are_taken m quantum tasks plan history written measured legal asked = (ends_at m quantum tasks plan history written measured legal asked).taken

-- the events are joins below the steps
all_numbered : (P : Numbered → Type 0) (number : ℕ) (slots : List Slotted) → ((n : ℕ) → All (λ s. P (held_join n s)) slots) → All P (held number slots)
unfolding each_numbered
all_numbered P number [] all = All-nil P
all_numbered P number (s ∷ slots) all =
    All-cons P (held_join number s) (held (number + 1) slots) (All-head (λ t. P (held_join number t)) s slots (all number))
    (all_numbered P (number + 1) slots (λ n. All-tail (λ t. P (held_join n t)) s slots (all n)))

pub held_joins : (number : ℕ) (slots : List Slotted) → All (λ x. IsJoin x.event) (held number slots)
held_joins number slots = all_numbered (λ x. IsJoin x.event) number slots (λ n k d lt. tt)

up_to_last : (slots : List Slotted) → All (λ s. s.join ≤ last_join slots) slots
unfolding last_join
up_to_last [] = All-nil (λ (s : Slotted). s.join ≤ 0)
up_to_last (s ∷ slots) =
    All-cons (λ t. t.join ≤ max s.join (last_join slots)) s slots (omega arith)
    (All-weaker (λ t. t.join ≤ last_join slots) (λ t. t.join ≤ max s.join (last_join slots)) (λ t le. omega (arith, le)) slots (up_to_last slots))

pub held_reached : (base number : ℕ) (slots : List Slotted) → 1 ≤ base → All IsSlotted slots → All (λ x. slot_of x.event < steps_of base slots) (held number slots)
held_reached base number slots some slotted =
    all_numbered (λ x. slot_of x.event < steps_of base slots) number slots
    (λ n k d lt. let join = (slotted k d lt).join in let last = up_to_last slots k d lt in omega (arith, some, join, last))

-- and ask for the load
pub held_units : (base number : ℕ) (slots : List Slotted) → units_of base (held number slots) ≡ sum_by (λ s. s.cost * (base / s.period)) slots
unfolding each_numbered
held_units base number [] = refl
held_units base number (s ∷ slots) =
    omega (
      arith,
      sum_by-cons (λ (x : Numbered). units_asked base x.event) (held_join number s) (held (number + 1) slots),
      sum_by-cons (λ (t : Slotted). t.cost * (base / t.period)) s slots,
      held_units base (number + 1) slots,
    )
