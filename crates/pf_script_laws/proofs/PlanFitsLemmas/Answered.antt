-- What a desk answers to the commands of a plan's script.
use Rattle.std.proofs.Common.{◌≡◌, ◌∙◌, ◌+◌, ◌<◌, ◌≤◌, ◌==◌, ◌%◌, ℕ, zero, suc, true, false, ◌||◌, nat_le, nat_lt, None, List, [], ◌∷◌, ◌++◌, All, length, replicate, arith, refl, sym, ap, subst}
use Rattle.std.specs.List.{list_any}
use Rattle.std.proofs.lemmas.Bool.{eq-eqb}
use Rattle.std.proofs.lemmas.Bool.Decides.{nat_tests}
use Rattle.std.proofs.lemmas.List.{length_push}
use Rattle.std.proofs.lemmas.List.Elements.{All-cons, All-head, All-push, All-tail}
use Rattle.pf_weight.specs.Weighed.{weight_fault}
use Rattle.pf_weight.specs.declared.task.TheConstants.{LARGEST_TASK}
use Rattle.pf_convert.specs.declared.slotted.Slotted.{Slotted}
use Rattle.pf_convert.specs.Slots.{IsSlotted}
use Rattle.pf_scenario.specs.System.{System, wide_horizon}
use Rattle.pf_scenario.specs.Scenario.{with_number}
use Rattle.pf_scenario.specs.Edit.{edit_fault, join_alike, leave_alike}
use Rattle.pf_scenario.specs.declared.limits.TheConstants.{MOST_EARLY}
use Rattle.pf_scenario.specs.declared.scenario.TheConstants.{LAST_NUMBER, MOST_EVENTS}
use Rattle.pf_scenario.specs.declared.change.Change.TheVariants.{Insert}
use Rattle.pf_scenario.specs.declared.event.Event.{Event}
use Rattle.pf_scenario.specs.declared.event.Event.TheVariants.{Join, Leave, Delay, Limit}
use Rattle.pf_scenario.specs.declared.event.Numbered.{Numbered}
use Rattle.pf_desk.specs.declared.command.Command.{Command}
use Rattle.pf_desk.specs.declared.command.Command.TheVariants.{Step}
use Rattle.pf_desk.specs.declared.entry.Entry.{Entry}
use Rattle.pf_desk.specs.declared.reply.Reply.{Reply}
use Rattle.pf_desk.specs.declared.reply.Reply.TheVariants.{Edited, Stepped}
use Rattle.pf_desk.specs.Machine.{State, reply_to, row_at, state_after}
use Rattle.pf_desk.specs.History.{IsLegalFrom, state_behind}
use Rattle.pf_script_run.specs.Carried.{asked_in}
use Rattle.pf_script_laws.specs.Conversions.Records.{each_numbered}
use Rattle.pf_script_laws.specs.PlanFits.Laws.{IsTaken, join_asked, plan_settings}

-- the join of a task
abbrev pub join_event : ℕ → Slotted → Event
join_event number s = Join s.join number s.cost s.period s.early

abbrev pub state_with : System → List Numbered → ℕ → ℕ → State
state_with settings events next now = record { plan = record { settings = settings; events = events; next = next }; now = now }

-- the state after the joins of these tasks, the first of which has this number
abbrev pub behind_joins : System → List Numbered → ℕ → List Slotted → State
behind_joins settings events number [] = state_with settings events number 0
behind_joins settings events number (s ∷ slots) =
    behind_joins settings (events ++ with_number number (join_event number s) ∷ []) (number + 1) slots

-- a join of a task below this number
abbrev pub IsJoinBelow : ℕ → Event → Type 0
IsJoinBelow number (Join slot task cost period early) = task < number
IsJoinBelow number (Leave slot task) = ⊥
IsJoinBelow number (Delay slot task held) = ⊥
IsJoinBelow number (Limit slot count) = ⊥

-- the events held before the join of the task of this number
pub record AreBefore (number : ℕ) (events : List Numbered) : Type 0 where
  pub some : 1 ≤ number
  pub joins : All (λ x. IsJoinBelow number x.event) events
  pub count : length events + 1 ≡ number

-- a task that the settings take
pub record IsTakable (base : ℕ) (s : Slotted) : Type 0 where
  pub slotted : IsSlotted s
  pub divides : base % s.period ≡ 0

no_join_alike : (number : ℕ) (s : Slotted) (events : List Numbered) → All (λ x. IsJoinBelow number x.event) events
    → list_any (λ x. join_alike x.event (join_event number s)) events ≡ false
no_join_alike number s [] all = refl
no_join_alike number s (x ∷ xs) all =
    one x.event (All-head (λ y. IsJoinBelow number y.event) x xs all) (no_join_alike number s xs (All-tail (λ y. IsJoinBelow number y.event) x xs all))
  where
    one : (e : Event) → IsJoinBelow number e → list_any (λ y. join_alike y.event (join_event number s)) xs ≡ false
        → (join_alike e (join_event number s) || list_any (λ y. join_alike y.event (join_event number s)) xs) ≡ false
    one (Join slot task cost period early) lt rest = let other : (task == number) ≡ false = grind (arith, nat_tests, lt) in rw other rest
    one (Leave slot task) lt rest = absurd lt
    one (Delay slot task held) lt rest = absurd lt
    one (Limit slot count) lt rest = absurd lt

no_leave_alike : (number : ℕ) (s : Slotted) (events : List Numbered) → All (λ x. IsJoinBelow number x.event) events
    → list_any (λ x. leave_alike x.event (join_event number s)) events ≡ false
no_leave_alike number s [] all = refl
no_leave_alike number s (x ∷ xs) all =
    one x.event (All-head (λ y. IsJoinBelow number y.event) x xs all) (no_leave_alike number s xs (All-tail (λ y. IsJoinBelow number y.event) x xs all))
  where
    one : (e : Event) → IsJoinBelow number e → list_any (λ y. leave_alike y.event (join_event number s)) xs ≡ false
        → (leave_alike e (join_event number s) || list_any (λ y. leave_alike y.event (join_event number s)) xs) ≡ false
    one (Join slot task cost period early) lt rest = rest
    one (Leave slot task) lt rest = absurd lt
    one (Delay slot task held) lt rest = absurd lt
    one (Limit slot count) lt rest = absurd lt

-- Use: it is a weight over the base.
pub no_weight_fault : (base : ℕ) (s : Slotted) → IsTakable base s → weight_fault base s.cost s.period ≡ None
no_weight_fault base s is =
    let some = is.slotted.some in
    let within = is.slotted.within in
    let a : (s.cost == 0) ≡ false = grind (arith, nat_tests, some) in
    let b : nat_lt s.period s.cost ≡ false = grind (arith, nat_tests, within) in
    let c : (base % s.period == 0) ≡ true = eq-eqb (base % s.period) 0 is.divides in
    rw (a, b, c) refl

no_fault : (m base number : ℕ) (s : Slotted) (events : List Numbered) → IsTakable base s → AreBefore number events → number ≤ LARGEST_TASK
    → edit_fault (record { settings = plan_settings m base; events = events; next = number }) (Insert (join_event number s)) ≡ None
no_fault m base number s events is before low =
    let below = is.slotted.join in
    let ahead = is.slotted.early in
    let some = before.some in
    let count = before.count in
    let slot : nat_lt s.join wide_horizon ≡ true = grind (arith, nat_tests, below) in
    let first : nat_le 1 number ≡ true = grind (arith, nat_tests, some) in
    let last : nat_le number LARGEST_TASK ≡ true = grind (arith, nat_tests, low) in
    let early : nat_le s.early MOST_EARLY ≡ true = grind (arith, nat_tests, ahead) in
    let weight = no_weight_fault base s is in
    let joins = no_join_alike number s events before.joins in
    let leaves = no_leave_alike number s events before.joins in
    let few : nat_lt (length events) MOST_EVENTS ≡ true = grind (arith, nat_tests, low, count) in
    let given : nat_le number LAST_NUMBER ≡ true = grind (arith, nat_tests, low) in
    rw (slot, first, last, early, weight, joins, leaves, few, given) refl

more_before : (number : ℕ) (s : Slotted) (events : List Numbered) → AreBefore number events → AreBefore (number + 1) (events ++ with_number number (join_event number s) ∷ [])
more_before number s events before = record {
  some = omega arith;
  joins = All-push (λ x. IsJoinBelow (number + 1) x.event) events (with_number number (join_event number s))
      (λ k d lt. wider _ (before.joins k d lt)) (omega arith);
  count = omega (arith, length_push events (with_number number (join_event number s)), before.count);
}
  where
    wider : (e : Event) → IsJoinBelow number e → IsJoinBelow (number + 1) e
    wider (Join slot task cost period early) lt = omega (arith, lt)
    wider (Leave slot task) lt = absurd lt
    wider (Delay slot task held) lt = absurd lt
    wider (Limit slot count) lt = absurd lt

-- what is left of a history after some of its entries, none of which is a refusal
pub record IsRest (from to : State) (history : List Entry) (left : List Command) (rest : List Entry) : Type 0 where
  pub asked : asked_in rest ≡ left
  pub legal : IsLegalFrom to rest
  pub behind : state_behind from history ≡ state_behind to rest
  pub taken : All (λ e. IsTaken e.reply) rest → All (λ e. IsTaken e.reply) history

-- the first entry of a history
pub record IsFirst (st : State) (command : Command) (reply : Reply) (more : List Command) (history : List Entry) : Type 0 where
  pub rest : List Entry
  pub asked : asked_in rest ≡ more
  pub legal : IsLegalFrom (state_after st command reply) rest
  pub behind : state_behind st history ≡ state_behind (state_after st command reply) rest
  pub taken : IsTaken reply → All (λ e. IsTaken e.reply) rest → All (λ e. IsTaken e.reply) history

first_entry : (st : State) (command : Command) (reply : Reply) (more : List Command) (history : List Entry) → reply_to st command ≡ reply
    → IsLegalFrom st history → asked_in history ≡ command ∷ more → IsFirst st command reply more history
first_entry st command reply more [] answers legal asked = let bad : asked_in [] ≡ command ∷ more = asked in cc
first_entry st command reply more (e ∷ es) answers legal asked =
    let both : e.command ∷ asked_in es ≡ command ∷ more = asked in
    let same : e.command ≡ command = cc in
    let rest : asked_in es ≡ more = cc in
    let told : e.reply ≡ reply = legal.0 ∙ ap (reply_to st) same ∙ answers in
    let next : state_after st e.command e.reply ≡ state_after st command reply = ap (λ c. state_after st c e.reply) same ∙ ap (state_after st command) told in
    record {
      rest = es;
      asked = rest;
      legal = subst (λ (q : State). IsLegalFrom q es) next legal.1;
      behind = ap (λ (q : State). state_behind q es) next;
      taken = λ one all. All-cons (λ d. IsTaken d.reply) e es (subst IsTaken (sym told) one) all;
    }

pub joins_answered : (m base number : ℕ) (events : List Numbered) (slots : List Slotted) (left : List Command) (history : List Entry)
    → AreBefore number events → All (IsTakable base) slots → number + length slots ≤ LARGEST_TASK + 1
    → IsLegalFrom (state_with (plan_settings m base) events number 0) history → asked_in history ≡ each_numbered join_asked number slots ++ left
    → (rest : List Entry) × IsRest (state_with (plan_settings m base) events number 0) (behind_joins (plan_settings m base) events number slots) history left rest
unfolding each_numbered
joins_answered m base number events [] left history before are few legal asked =
    (history, record { asked = asked; legal = legal; behind = refl; taken = λ all. all })
joins_answered m base number events (s ∷ slots) left history before are few legal asked =
    let st = state_with (plan_settings m base) events number 0 in
    let none = no_fault m base number s events (All-head (IsTakable base) s slots are) before (omega (arith, few)) in
    let answers : reply_to st (join_asked number s) ≡ Edited number = rw none refl in
    let one = first_entry st (join_asked number s) (Edited number) (each_numbered join_asked (number + 1) slots ++ left) history answers legal asked in
    let more = joins_answered m base (number + 1) (events ++ with_number number (join_event number s) ∷ []) slots left one.rest (more_before number s events before)
    (All-tail (IsTakable base) s slots are) (omega (arith, few)) one.legal one.asked in (
      more.0,
      record {
        asked = more.1.asked;
        legal = more.1.legal;
        behind = one.behind ∙ more.1.behind;
        taken = λ all. one.taken tt (more.1.taken all);
      },
    )

-- so many steps below the horizon
pub steps_answered : (settings : System) (events : List Numbered) (next now count : ℕ) (history : List Entry) → now + count ≤ settings.horizon
    → IsLegalFrom (state_with settings events next now) history → asked_in history ≡ replicate count Step
    → IsRest (state_with settings events next now) (state_with settings events next (now + count)) history [] []
steps_answered settings events next now zero [] within legal asked =
    let same : now ≡ now + 0 = omega arith in
    record { asked = refl; legal = tt; behind = ap (λ (t : ℕ). state_with settings events next t) same; taken = λ all. all }
steps_answered settings events next now zero (e ∷ es) within legal asked = let bad : e.command ∷ asked_in es ≡ [] = asked in cc
steps_answered settings events next now (suc count) history within legal asked =
    let st = state_with settings events next now in
    let below : (now == settings.horizon) ≡ false = grind (arith, nat_tests, within) in
    let answers : reply_to st Step ≡ Stepped now (row_at st.plan now) = rw below refl in
    let one = first_entry st Step (Stepped now (row_at st.plan now)) (replicate count Step) history answers legal asked in
    let more = steps_answered settings events next (now + 1) count one.rest (omega (arith, within)) one.legal one.asked in
    let same : now + 1 + count ≡ now + suc count = omega arith in
    record {
      asked = refl;
      legal = tt;
      behind = one.behind ∙ more.behind ∙ ap (λ (t : ℕ). state_with settings events next t) same;
      taken = λ all. one.taken tt (more.taken all);
    }
