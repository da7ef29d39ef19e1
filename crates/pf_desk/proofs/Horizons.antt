-- Histories whose replies do not show the horizon.
use Rattle.std.proofs.Common.{◌≡◌, ◌≢◌, ℕ, zero, suc, ◌+◌, ◌<◌, ◌≤◌, ◌==◌, Bool, true, false, nat_lt, Option, Some, None, List, [], ◌∷◌, ◌++◌, length, map, get_or, All, refl, sym, ap, ap₂, ◌∙◌, subst, arith}
use Rattle.std.specs.List.{slice_get}
use Rattle.std.proofs.lemmas.Bool.{ltb-true, lt-ltb, eq-eqb, ne_eqb, cond-true, cond-false}
use Rattle.std.proofs.lemmas.List.Elements.{All-head, All-tail}
use Rattle.pf_place.specs.RunRows.{rows_of}
use Rattle.pf_scenario.specs.System.{System, near_horizon, wide_horizon}
use Rattle.pf_scenario.specs.Event.{slot_of}
use Rattle.pf_scenario.specs.Scenario.{Plan, events_of, past, number_of_change, plan_after, events_without}
use Rattle.pf_scenario.specs.Edit.{or_else, unless, event_fault, edit_fault}
use Rattle.pf_scenario.specs.declared.event.Event.{Event}
use Rattle.pf_scenario.specs.declared.event.Event.TheVariants.{Join, Leave, Delay, Limit}
use Rattle.pf_scenario.specs.declared.event.Numbered.{Numbered}
use Rattle.pf_scenario.specs.declared.change.Change.{Change}
use Rattle.pf_scenario.specs.declared.change.Change.TheVariants.{Insert, Alter, Strike}
use Rattle.pf_scenario.specs.declared.fault.EditFault.{EditFault}
use Rattle.pf_scenario.specs.declared.fault.EditFault.TheVariants.{SlotOutOfRange}
use Rattle.pf_run.specs.declared.denied.Denied.{Denied}
use Rattle.pf_run.specs.Record.{Slot, denials_of, in_force}
use Rattle.pf_run.specs.Inside.{count_of}
use Rattle.pf_run.specs.Denials.{denial_of, denied_for}
use Rattle.pf_run.specs.Run.{pick_of_key}
use Rattle.pf_run.specs.Computed.{RunCourse, with_event, after_events, denials_among, picks_of, next_course, course_of, run_of}
use Rattle.pf_run.specs.RunRows.{turns_behind, turns_of, rows_in, denials_in}
use Rattle.pf_desk.specs.declared.command.Command.{Command}
use Rattle.pf_desk.specs.declared.command.Command.TheVariants.{Edit, Step}
use Rattle.pf_desk.specs.declared.reply.Reply.{Reply}
use Rattle.pf_desk.specs.declared.reply.Reply.TheVariants.{Edited, Stepped, Refused}
use Rattle.pf_desk.specs.declared.entry.Entry.{Entry}
use Rattle.pf_desk.specs.Machine.{State, opening_state, strict_reply, edit_reply, reply_to, state_after}
use Rattle.pf_desk.specs.History.{IsLegalFrom, state_behind}
use Rattle.pf_desk.specs.Horizon.{with_wide_horizon, IsShortOfHorizon, HorizonIsOutOfSight}
use Rattle.pf_desk.proofs.Histories.{settings_after}

-- the same plan, and the same state, with the wide horizon
abbrev wide_plan : Plan → Plan
wide_plan s = record s { settings = with_wide_horizon s.settings }

abbrev wide_state : State → State
wide_state st = record st { plan = wide_plan st.plan }

-- No run rests on the horizon.
wide_denial : (s : System) (r : List Slot) (xs : List Numbered) (x : Event) → denial_of (with_wide_horizon s) r xs x ≡ denial_of s r xs x
wide_denial s r xs (Join slot task cost period early) = refl
wide_denial s r xs (Leave slot task) = refl
wide_denial s r xs (Delay slot task by) = refl
wide_denial s r xs (Limit slot count) = refl

wide_after : (s : System) (r : List Slot) (xs ys : List Numbered) → after_events (with_wide_horizon s) r xs ys ≡ after_events s r xs ys
wide_after s r xs [] = refl
wide_after s r xs (y ∷ ys) =
    ap (λ o. after_events (with_wide_horizon s) r (with_event xs y o) ys) (wide_denial s r xs y.event)
    ∙ wide_after s r (with_event xs y (denial_of s r xs y.event)) ys

wide_denials : (s : System) (r : List Slot) (xs ys : List Numbered) → denials_among (with_wide_horizon s) r xs ys ≡ denials_among s r xs ys
wide_denials s r xs [] = refl
wide_denials s r xs (y ∷ ys) =
    ap (λ o. denied_for y (length r) o ++ denials_among (with_wide_horizon s) r (with_event xs y o) ys) (wide_denial s r xs y.event)
    ∙ ap (λ denials. denied_for y (length r) (denial_of s r xs y.event) ++ denials)
    (wide_denials s r (with_event xs y (denial_of s r xs y.event)) ys)

wide_events : (s : Plan) (t : ℕ) → events_of (wide_plan s) t ≡ events_of s t
unfolding events_of
wide_events s t = refl

wide_next : (s : Plan) (c : RunCourse) (events : List Numbered) → next_course (wide_plan s) c events ≡ next_course s c events
wide_next s c events =
    ap₂ (λ after denials. record {
      slots = c.slots ++ record { picks = map pick_of_key (picks_of s.settings c.slots after); denials = denials } ∷ [];
      standing = after;
    }) (wide_after s.settings c.slots c.standing events) (wide_denials s.settings c.slots c.standing events)

wide_course : (s : Plan) (n : ℕ) → course_of (wide_plan s) n ≡ course_of s n
unfolding course_of
wide_course s zero = refl
wide_course s (suc n) =
    ap₂ (next_course (wide_plan s)) (wide_course s n) (wide_events s n) ∙ wide_next s (course_of s n) (events_of s n)

wide_run : (s : Plan) (n : ℕ) → run_of (wide_plan s) n ≡ run_of s n
wide_run s n = ap (λ c. c.slots) (wide_course s n)

wide_past : (s : Plan) (t : ℕ) → past (wide_plan s) t ≡ past s t
wide_past s zero = refl
wide_past s (suc t) = ap₂ (λ early late. early ++ late) (wide_past s t) (wide_events s t)

wide_turns : (s : Plan) (r slots : List Slot) → turns_behind (wide_plan s) r slots ≡ turns_behind s r slots
wide_turns s r [] = refl
wide_turns s r (slot ∷ slots) =
    ap₂ (λ xs turns. (count_of s.settings.processors (in_force (denials_of (r ++ slot ∷ [])) xs), slot.picks) ∷ turns)
    (wide_past s (length (r ++ slot ∷ []))) (wide_turns s (r ++ slot ∷ []) slots)

wide_rows : (s : Plan) (n : ℕ) → rows_in (wide_plan s) n ≡ rows_in s n
unfolding rows_in
wide_rows s n =
    ap (rows_of s.settings.processors) (wide_turns s [] (run_of (wide_plan s) n) ∙ ap (turns_of s) (wide_run s n))

wide_denied : (s : Plan) (n : ℕ) → denials_in (wide_plan s) n ≡ denials_in s n
unfolding denials_in
wide_denied s n = ap denials_of (wide_run s n)

-- No other fault rests on it.
tested : (b wide : Bool) (f : EditFault) (rest : Option EditFault) → (b ≡ true → wide ≡ true) → or_else (unless b f) rest ≢ Some f →
    or_else (unless wide f) rest ≡ or_else (unless b f) rest
tested true wide f rest wider short = ap (λ c. or_else (unless c f) rest) (wider refl)
tested false wide f rest wider short = absurd (short refl)

ahead : (first wide rest : Option EditFault) (f : EditFault) → or_else first rest ≢ Some f → (first ≢ Some f → wide ≡ first) →
    or_else wide rest ≡ or_else first rest
ahead first wide rest f short same = ap (λ o. or_else o rest) (same (λ is. short (ap (λ o. or_else o rest) is)))

behind : (first rest wide : Option EditFault) (f : EditFault) → or_else first rest ≢ Some f → (rest ≢ Some f → wide ≡ rest) →
    or_else first wide ≡ or_else first rest
behind None rest wide f short same = same short
behind (Some g) rest wide f short same = refl

wide_event : (s : System) (others : List Numbered) (event : Event) → s.horizon ≡ near_horizon →
    event_fault s others event ≢ Some SlotOutOfRange → event_fault (with_wide_horizon s) others event ≡ event_fault s others event
wide_event s others event near short =
    tested (nat_lt (slot_of event) s.horizon) (nat_lt (slot_of event) wide_horizon) SlotOutOfRange _
    (λ is. lt-ltb (slot_of event) wide_horizon (omega (arith, near, ltb-true (slot_of event) s.horizon is))) short

wide_fault : (s : Plan) (c : Change) → s.settings.horizon ≡ near_horizon → edit_fault s c ≢ Some SlotOutOfRange →
    edit_fault (wide_plan s) c ≡ edit_fault s c
wide_fault s (Insert event) near short =
    ahead (event_fault s.settings s.events event) (event_fault (with_wide_horizon s.settings) s.events event) _ SlotOutOfRange short
    (wide_event s.settings s.events event near)
wide_fault s (Alter id event) near short =
    behind _ (event_fault s.settings (events_without id s.events) event) (event_fault (with_wide_horizon s.settings) (events_without id s.events) event)
    SlotOutOfRange short (wide_event s.settings (events_without id s.events) event near)
wide_fault s (Strike id) near short = refl

-- The replies and the states.
wide_changed : (s : Plan) (c : Change) → plan_after (wide_plan s) c ≡ wide_plan (plan_after s c)
wide_changed s (Insert event) = refl
wide_changed s (Alter id event) = refl
wide_changed s (Strike id) = refl

wide_concerned : (s : Plan) (c : Change) → number_of_change (wide_plan s) c ≡ number_of_change s c
wide_concerned s (Insert event) = refl
wide_concerned s (Alter id event) = refl
wide_concerned s (Strike id) = refl

wide_strict : (st : State) (c : Change) (o : Option Denied) → strict_reply (wide_state st) c o ≡ strict_reply st c o
wide_strict st c None = ap (λ id. Edited id) (wide_concerned st.plan c)
wide_strict st c (Some d) = refl

wide_edit : (st : State) (c : Change) (strict : Bool) (o : Option EditFault) → edit_reply (wide_state st) c strict o ≡ edit_reply st c strict o
wide_edit st c strict (Some fault) = refl
wide_edit st c false None = ap (λ id. Edited id) (wide_concerned st.plan c)
wide_edit st c true None =
    wide_strict st c _
    ∙ ap (λ denials. strict_reply st c (slice_get denials 0))
    (ap (λ s. denials_in s st.now) (wide_changed st.plan c) ∙ wide_denied (plan_after st.plan c) st.now)

-- a step that is answered with a row is taken below the horizon
below_horizon : (st : State) → st.plan.settings.horizon ≡ near_horizon → st.now ≤ near_horizon → IsShortOfHorizon (reply_to st Step) →
    st.now < near_horizon
below_horizon st near within short =
    let apart : st.now ≢ st.plan.settings.horizon =
    λ at. short.1 (cond-true (st.now == st.plan.settings.horizon) _ _ (eq-eqb st.now st.plan.settings.horizon at)) in
    let far : st.now ≢ near_horizon = λ at. apart (at ∙ sym near) in
    omega (arith, within, far)

wide_reply : (st : State) (command : Command) → st.plan.settings.horizon ≡ near_horizon → st.now ≤ near_horizon →
    IsShortOfHorizon (reply_to st command) → reply_to (wide_state st) command ≡ reply_to st command
wide_reply st Step near within short =
    let below : st.now < near_horizon = below_horizon st near within short in
    cond-false (st.now == wide_horizon) _ _ (ne_eqb st.now wide_horizon (λ at. omega (arith, at, below)))
    ∙ ap (λ rows. Stepped st.now (get_or rows st.now [])) (wide_rows st.plan (st.now + 1))
    ∙ sym (cond-false (st.now == st.plan.settings.horizon) _ _
    (ne_eqb st.now st.plan.settings.horizon (λ at. omega (arith, at, near, below))))
wide_reply st (Edit change strict) near within short =
    ap (edit_reply (wide_state st) change strict)
    (wide_fault st.plan change near (λ is. short.0 (ap (edit_reply st change strict) is)))
    ∙ wide_edit st change strict (edit_fault st.plan change)

wide_after_reply : (st : State) (command : Command) (reply : Reply) →
    state_after (wide_state st) command reply ≡ wide_state (state_after st command reply)
wide_after_reply st command (Refused fault) = refl
wide_after_reply st Step (Edited id) = refl
wide_after_reply st Step (Stepped slot row) = refl
wide_after_reply st (Edit change strict) (Edited id) = ap (λ s. record { plan = s; now = st.now }) (wide_changed st.plan change)
wide_after_reply st (Edit change strict) (Stepped slot row) = ap (λ s. record { plan = s; now = st.now }) (wide_changed st.plan change)

step_within : (st : State) (reply : Reply) → (state_after st Step reply).now ≤ st.now + 1
step_within st (Refused fault) = omega arith
step_within st (Edited id) = omega arith
step_within st (Stepped slot row) = omega arith

edit_within : (st : State) (change : Change) (strict : Bool) (reply : Reply) → (state_after st (Edit change strict) reply).now ≤ st.now
edit_within st change strict (Refused fault) = omega arith
edit_within st change strict (Edited id) = omega arith
edit_within st change strict (Stepped slot row) = omega arith

now_within : (st : State) (command : Command) (reply : Reply) → st.plan.settings.horizon ≡ near_horizon → st.now ≤ near_horizon →
    IsShortOfHorizon (reply_to st command) → (state_after st command reply).now ≤ near_horizon
now_within st Step reply near within short =
    let below : st.now < near_horizon = below_horizon st near within short in
    omega (arith, step_within st reply, below)
now_within st (Edit change strict) reply near within short = omega (arith, edit_within st change strict reply, within)

wide_history : (st : State) (es : List Entry) → st.plan.settings.horizon ≡ near_horizon → st.now ≤ near_horizon →
    All (λ e. IsShortOfHorizon e.reply) es → IsLegalFrom st es →
    IsLegalFrom (wide_state st) es × (state_behind (wide_state st) es ≡ wide_state (state_behind st es))
wide_history st [] near within short legal = (tt, refl)
wide_history st (e ∷ es) near within short legal =
    let answered : IsShortOfHorizon (reply_to st e.command) =
    subst IsShortOfHorizon legal.0 (All-head (λ e. IsShortOfHorizon e.reply) e es short) in
    let next : State = state_after st e.command e.reply in
    let moved : state_after (wide_state st) e.command e.reply ≡ wide_state next = wide_after_reply st e.command e.reply in
    let rest : IsLegalFrom (wide_state next) es × (state_behind (wide_state next) es ≡ wide_state (state_behind next es)) =
    wide_history next es (ap (λ system. system.horizon) (settings_after st e.command e.reply) ∙ near)
    (now_within st e.command e.reply near within answered) (All-tail (λ e. IsShortOfHorizon e.reply) e es short) legal.1 in (
      (legal.0 ∙ sym (wide_reply st e.command near within answered), subst (λ at. IsLegalFrom at es) (sym moved) rest.0),
      ap (λ at. state_behind at es) moved ∙ rest.1,
    )

pub horizon_is_out_of_sight : HorizonIsOutOfSight
horizon_is_out_of_sight s es near short legal =
    let wide = wide_history (opening_state s) es near (omega arith) short legal in
    let last : State = state_behind (opening_state s) es in
    (wide.0, sym (ap (λ (st : State). run_of st.plan st.now) wide.1 ∙ wide_run last.plan last.now))
