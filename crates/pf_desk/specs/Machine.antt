-- The desk machine: what a planner's desk answers, and what it is then, said from slot zero each time.
use Rattle.std.specs.Prelude.{⊤, ℕ, ◌+◌, ◌==◌, Bool, if◌then◌else◌, Option, None, Some, List, []}
use Rattle.std.specs.List.{slice_get, slice_index_or}
use Rattle.pf_order.specs.declared.pick.Pick.{Pick}
use Rattle.pf_scenario.specs.System.{System}
use Rattle.pf_scenario.specs.Scenario.{Plan, opening_plan, plan_after, number_of_change}
use Rattle.pf_scenario.specs.Edit.{edit_fault}
use Rattle.pf_scenario.specs.declared.change.Change.{Change}
use Rattle.pf_scenario.specs.declared.fault.EditFault.{EditFault}
use Rattle.pf_run.specs.declared.denied.Denied.{Denied}
use Rattle.pf_run.specs.RunRows.{rows_in, denials_in}
use Rattle.pf_desk.specs.declared.command.Command.{Command}
use Rattle.pf_desk.specs.declared.command.Command.TheVariants.{Edit, Step}
use Rattle.pf_desk.specs.declared.reply.Fault.TheVariants.{BadEdit, AtHorizon, WouldDeny}
use Rattle.pf_desk.specs.declared.reply.Reply.{Reply}
use Rattle.pf_desk.specs.declared.reply.Reply.TheVariants.{Edited, Stepped, Refused}

-- a scenario, and how many slots of it have been stepped
pub record State : Type 0 where
  pub plan : Plan
  pub now : ℕ

abbrev pub opening_state : System → State
opening_state settings = record { plan = opening_plan settings; now = 0 }

-- the row of slot t in the scenario's run
abbrev pub row_at : Plan → ℕ → List (Option Pick)
row_at s t = slice_index_or (rows_in s (t + 1)) t []

-- a step gives the next slot's row, below the horizon
abbrev pub step_reply : State → Reply
step_reply st =
    if st.now == st.plan.settings.horizon then Refused AtHorizon else Stepped st.now (row_at st.plan st.now)

-- the reply to a step by the row of the slot that it took, where it took one
abbrev pub reply_by_row : ℕ → Option (List (Option Pick)) → Reply
reply_by_row slot None = Refused AtHorizon
reply_by_row slot (Some row) = Stepped slot row

-- a strict edit is refused with the first denial of the changed scenario's run so far, old or new
abbrev pub strict_reply : State → Change → Option Denied → Reply
strict_reply st change None = Edited (number_of_change st.plan change)
strict_reply st change (Some d) = Refused (WouldDeny d.id d.denial)

-- an edit is refused with its fault, where it has one
abbrev pub edit_reply : State → Change → Bool → Option EditFault → Reply
edit_reply st change strict (Some fault) = Refused (BadEdit fault)
edit_reply st change strict None =
    if strict
    then strict_reply st change (slice_get (denials_in (plan_after st.plan change) st.now) 0)
    else Edited (number_of_change st.plan change)

-- what a command is answered
abbrev pub reply_to : State → Command → Reply
reply_to st Step = step_reply st
reply_to st (Edit change strict) = edit_reply st change strict (edit_fault st.plan change)

-- what a command makes of the state, where it is not refused
abbrev pub next_state : State → Command → State
next_state st Step = record st { now = st.now + 1 }
next_state st (Edit change strict) = record st { plan = plan_after st.plan change }

-- the state after a command and its reply: a refusal leaves it
abbrev pub state_after : State → Command → Reply → State
state_after st command (Refused fault) = st
state_after st command reply = next_state st command

-- the reply to a step that took a slot
abbrev pub IsStepped : Reply → Type 0
IsStepped (Stepped slot row) = ⊤
IsStepped reply = ⊥
