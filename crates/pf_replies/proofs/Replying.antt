-- The row of a reply has few places.
use Rattle.std.proofs.Common.{◌≡◌, ℕ, ◌+◌, ◌==◌, Bool, true, false, List, [], ◌∷◌, ◌++◌, length, Option, Some, None, ap, subst, ◌∙◌, arith}
use Rattle.std.specs.Prelude.{if◌then◌else◌}
use Rattle.std.specs.List.{slice_get}
use Rattle.pf_order.specs.declared.pick.Pick.{Pick}
use Rattle.pf_scenario.specs.declared.change.Change.{Change}
use Rattle.pf_scenario.specs.declared.fault.EditFault.{EditFault}
use Rattle.pf_scenario.specs.Scenario.{plan_after}
use Rattle.pf_scenario.specs.Edit.{IsScenario, edit_fault}
use Rattle.pf_run.specs.declared.denied.Denied.{Denied}
use Rattle.pf_run.specs.RunRows.{denials_in}
use Rattle.pf_desk.specs.declared.command.Command.{Command}
use Rattle.pf_desk.specs.declared.command.Command.TheVariants.{Edit, Step}
use Rattle.pf_desk.specs.declared.reply.Fault.TheVariants.{AtHorizon}
use Rattle.pf_desk.specs.declared.reply.Reply.{Reply}
use Rattle.pf_desk.specs.declared.reply.Reply.TheVariants.{Edited, Stepped, Refused}
use Rattle.pf_desk.specs.Machine.{State, row_at, step_reply, strict_reply, edit_reply, reply_to, state_after}
use Rattle.pf_desk.proofs.Pasts.{places_in}
use Rattle.pf_report.specs.Replies.{HasFewPlaces}

-- an edit takes no slot
strict_takes_none : (st : State) (change : Change) (slot : ℕ) (row : List (Option Pick)) (d : Option Denied)
    → Stepped slot row ≡ strict_reply st change d → ⊥
strict_takes_none st change slot row None e = cc
strict_takes_none st change slot row (Some d) e = cc

pub edit_takes_none : (st : State) (change : Change) (strict : Bool) (slot : ℕ) (row : List (Option Pick)) (o : Option EditFault)
    → Stepped slot row ≡ edit_reply st change strict o → ⊥
edit_takes_none st change strict slot row (Some fault) e = cc
edit_takes_none st change true slot row None e =
    strict_takes_none st change slot row (slice_get (denials_in (plan_after st.plan change) st.now) 0) e
edit_takes_none st change false slot row None e = cc

-- the row of a step
step_takes : (st : State) (slot : ℕ) (row : List (Option Pick)) → Stepped slot row ≡ step_reply st → row ≡ row_at st.plan st.now
step_takes st slot row e = by (st.now == st.plan.settings.horizon) e
  where
    by : (b : Bool) → Stepped slot row ≡ (if b then Refused AtHorizon else Stepped st.now (row_at st.plan st.now)) → row ≡ row_at st.plan st.now
    by true e = cc
    by false e = cc

-- Use: what a row of a desk's reply is shown with.
pub few_places : (st after : State) (command : Command) (reply : Reply) → reply ≡ reply_to st command → after ≡ state_after st command reply
    → IsScenario after.plan → HasFewPlaces reply
few_places st after command (Edited id) answer state scenario = tt
few_places st after command (Refused fault) answer state scenario = tt
few_places st after (Edit change strict) (Stepped slot row) answer state scenario =
    absurd (edit_takes_none st change strict slot row (edit_fault st.plan change) answer)
few_places st after Step (Stepped slot row) answer state scenario =
    let same : after.plan ≡ st.plan = ap (λ s. s.plan) state in
    let held : IsScenario st.plan = subst IsScenario same scenario in
    let long : length row ≡ st.plan.settings.processors =
    ap length (step_takes st slot row answer) ∙ places_in st.plan (st.now + 1) st.now [] held (omega arith) in
    omega (arith, held.settings.limits.processors_within)
