-- The replies of a desk's history: each row has few places.
use Rattle.std.proofs.Common.{◌≡◌, ◌+◌, ◌==◌, ℕ, zero, suc, Bool, true, false, Option, Some, None, List, [], ◌∷◌, All, drop, length, refl, sym, ap, ◌∙◌, arith}
use Rattle.std.specs.Prelude.{if◌then◌else◌}
use Rattle.std.specs.List.{AllByRecursion, slice_get}
use Rattle.std.proofs.lemmas.List.{drop_more}
use Rattle.std.proofs.lemmas.Option.{get_or_from_slice_get, slice_get_within}
use Rattle.std.proofs.lemmas.List.Elements.{All-from_recursion}
use Rattle.pf_order.specs.declared.pick.Pick.{Pick}
use Rattle.pf_scenario.specs.Scenario.{plan_after}
use Rattle.pf_scenario.specs.Edit.{IsScenario, edit_fault}
use Rattle.pf_scenario.specs.declared.change.Change.{Change}
use Rattle.pf_scenario.specs.declared.fault.EditFault.{EditFault}
use Rattle.pf_scenario.proofs.Scenarios.{changes_keep_scenarios, opening_is_scenario}
use Rattle.pf_run.specs.declared.denied.Denied.{Denied}
use Rattle.pf_run.specs.RunRows.{denials_in}
use Rattle.pf_desk.specs.declared.command.Command.{Command}
use Rattle.pf_desk.specs.declared.command.Command.TheVariants.{Edit, Step}
use Rattle.pf_desk.specs.declared.reply.Fault.TheVariants.{AtHorizon}
use Rattle.pf_desk.specs.declared.reply.Reply.{Reply}
use Rattle.pf_desk.specs.declared.reply.Reply.TheVariants.{Edited, Stepped, Refused}
use Rattle.pf_desk.specs.declared.entry.Entry.{Entry}
use Rattle.pf_desk.specs.Machine.{State, opening_state, row_at, step_reply, strict_reply, edit_reply, reply_to, state_after}
use Rattle.pf_desk.specs.History.{IsLegalFrom}
use Rattle.pf_desk.specs.Desk.{Shown, IsDesk}
use Rattle.pf_desk.proofs.Pasts.{places_in}
use Rattle.pf_report.specs.Replies.{HasFewPlaces}

-- an edit takes no slot
strict_takes_none : (st : State) (change : Change) (slot : ℕ) (row : List (Option Pick)) (d : Option Denied)
    → Stepped slot row ≡ strict_reply st change d → ⊥
strict_takes_none st change slot row None e = cc
strict_takes_none st change slot row (Some d) e = cc

edit_takes_none : (st : State) (change : Change) (strict : Bool) (slot : ℕ) (row : List (Option Pick)) (o : Option EditFault)
    → Stepped slot row ≡ edit_reply st change strict o → ⊥
edit_takes_none st change strict slot row (Some fault) e = cc
edit_takes_none st change true slot row None e =
    strict_takes_none st change slot row (slice_get (denials_in (plan_after st.plan change) st.now) 0) e
edit_takes_none st change false slot row None e = cc

-- the row of a step
step_takes : (st : State) (slot : ℕ) (row : List (Option Pick)) → Stepped slot row ≡ step_reply st → row ≡ row_at st.plan st.now
step_takes st slot row e = by (st.now == st.plan.settings.horizon) e
  where
    by : (b : Bool) → Stepped slot row ≡ (if b then Refused AtHorizon else Stepped st.now (row_at st.plan st.now)) → row ≡ row_at st.plan st.now
    by true e = cc
    by false e = cc

-- an edit that was made has no fault
made_by : (st : State) (change : Change) (strict : Bool) (id : ℕ) (o : Option EditFault) → edit_fault st.plan change ≡ o
    → Edited id ≡ edit_reply st change strict o → IsScenario st.plan → IsScenario (plan_after st.plan change)
made_by st change strict id (Some fault) is e held = absurd cc
made_by st change strict id None is e held = changes_keep_scenarios st.plan change held is

-- the plan stays a scenario
scenario_after : (st : State) (c : Command) (r : Reply) → r ≡ reply_to st c → IsScenario st.plan → IsScenario (state_after st c r).plan
scenario_after st c (Refused fault) is held = held
scenario_after st Step (Edited id) is held = held
scenario_after st Step (Stepped slot row) is held = held
scenario_after st (Edit change strict) (Edited id) is held = made_by st change strict id (edit_fault st.plan change) refl is held
scenario_after st (Edit change strict) (Stepped slot row) is held =
    absurd (edit_takes_none st change strict slot row (edit_fault st.plan change) is)

few_places : (st : State) (c : Command) (r : Reply) → r ≡ reply_to st c → IsScenario st.plan → HasFewPlaces r
few_places st c (Refused fault) is held = tt
few_places st c (Edited id) is held = tt
few_places st (Edit change strict) (Stepped slot row) is held =
    absurd (edit_takes_none st change strict slot row (edit_fault st.plan change) is)
few_places st Step (Stepped slot row) is held =
    let long : length row ≡ st.plan.settings.processors =
    ap length (step_takes st slot row is) ∙ places_in st.plan (st.now + 1) st.now [] held (omega arith) in
    omega (arith, long, held.settings.limits.processors_within)

few_each : (st : State) (es : List Entry) → IsLegalFrom st es → IsScenario st.plan → AllByRecursion (λ e. HasFewPlaces e.reply) es
few_each st [] legal held = tt
few_each st (e ∷ es) legal held = (
  few_places st e.command e.reply legal.0 held,
  few_each (state_after st e.command e.reply) es legal.1 (scenario_after st e.command e.reply legal.0 held),
)

few_behind : (k : ℕ) (es : List Entry) → AllByRecursion (λ e. HasFewPlaces e.reply) es → AllByRecursion (λ e. HasFewPlaces e.reply) (drop k es)
few_behind zero es few = few
few_behind (suc k) [] few = tt
few_behind (suc k) (e ∷ es) few = few_behind k es few.1

-- Use: the rows that are left of a desk's replies have few places.
pub few_left : (d : Shown) (k : ℕ) → IsDesk d → All (λ e. HasFewPlaces e.reply) (drop k d.history)
few_left d k is =
    let settings = d.state.plan.settings in
    All-from_recursion (λ e. HasFewPlaces e.reply) (drop k d.history)
    (few_behind k d.history (few_each (opening_state settings) d.history is.legal (opening_is_scenario settings is.of_run.scenario.settings)))

-- Use: the entries left, of which one is next.
pub next_entry : (entries : List Entry) (k : ℕ) (e : Entry) → Some e ≡ slice_get entries k → drop k entries ≡ e ∷ drop (k + 1) entries
next_entry entries k e at =
    drop_more entries k e (slice_get_within entries k e (sym at)) ∙ ap (λ x. x ∷ drop (k + 1) entries) (get_or_from_slice_get entries k e e (sym at))
