-- What a desk shows, and what always holds of it.
use Rattle.std.specs.Prelude.{⊤, ◌≡◌, ◌⊎◌, ◌≤◌, ◌+◌, ◌-◌, ℕ, nat_le, nat_lt, min, if◌then◌else◌, Option, None, Some, IsSome, IfSome, List, [], ◌∷◌, ◌++◌, length, map, All}
use Rattle.pf_order.specs.declared.pick.Pick.{Pick}
use Rattle.pf_scenario.specs.System.{System}
use Rattle.pf_timeline.specs.Checkpoints.{near_distance, near_slots}
use Rattle.pf_scenario.specs.Scenario.{slot_touched}
use Rattle.pf_scenario.specs.Edit.{edit_fault}
use Rattle.pf_run.specs.declared.denied.Denied.{Denied}
use Rattle.pf_run.specs.RunRows.{AreOfRun}
use Rattle.pf_desk.specs.declared.command.Command.{Command}
use Rattle.pf_desk.specs.declared.command.Command.TheVariants.{Edit, Step}
use Rattle.pf_desk.specs.declared.reply.Reply.{Reply}
use Rattle.pf_desk.specs.declared.reply.Reply.TheVariants.{Refused}
use Rattle.pf_desk.specs.declared.entry.Entry.{Entry}
use Rattle.pf_desk.specs.Machine.{State, reply_to, state_after}
use Rattle.pf_desk.specs.History.{IsLegalFrom, state_behind, IsLegal, last_state}

-- a desk: its state, the rows and denials that it keeps, its history, how far its checkpoints lie apart in slots, and
-- how many entries more it has room for
pub record Shown : Type 0 where
  pub state : State
  pub rows : List (List (Option Pick))
  pub denials : List Denied
  pub history : List Entry
  pub every : ℕ
  pub spare : ℕ

-- the desk is as before, with no less room for entries
pub record IsAsBefore (before after : Shown) : Type 0 where
  pub rest : after ≡ record before { spare = after.spare }
  pub room : before.spare ≤ after.spare

-- the desk's promise: its history is legal and ends in its state, and its rows and denials are those of the run of
-- its scenario from slot zero
pub record IsDesk (d : Shown) : Type 0 where
  pub legal : IsLegal d.state.plan.settings d.history
  pub last : last_state d.state.plan.settings d.history ≡ d.state
  pub of_run : AreOfRun d.state.plan d.state.now d.rows d.denials

abbrev pub entry_of : ℕ → Command → Reply → Entry
entry_of caller command reply = record { caller = caller; command = command; reply = reply }

-- the desk answered a caller's command as the machine does, entered it, and is then where the machine is
pub record AnswersCaller (caller : ℕ) (command : Command) (before : Shown) (reply : Reply) (after : Shown) : Type 0 where
  pub answer : reply ≡ reply_to before.state command
  pub entered : after.history ≡ before.history ++ entry_of caller command reply ∷ []
  pub state : after.state ≡ state_after before.state command reply
  pub every : after.every ≡ before.every

-- the desk answered a caller's commands one after another, each as the machine does, and entered them in order
pub record AnswersAll (caller : ℕ) (commands : List Command) (before after : Shown) : Type 0 where
  pub entries : List Entry
  pub commands_in_order : map (λ e. e.command) entries ≡ commands
  pub callers : All (λ e. e.caller ≡ caller) entries
  pub answers : IsLegalFrom before.state entries
  pub entered : after.history ≡ before.history ++ entries
  pub state : after.state ≡ state_behind before.state entries
  pub every : after.every ≡ before.every

-- a refused command leaves all but the history, and the room for entries
abbrev pub LeavesRest : Reply → Shown → Shown → Type 0
LeavesRest (Refused fault) before after = after ≡ record before { history = after.history; spare = after.spare }
LeavesRest reply before after = ⊤

-- a command that counts no slot: a step at the horizon, an edit with a fault, an edit that touches no slot below now
abbrev pub IsUncounted : State → Command → Type 0
IsUncounted st Step = st.now ≡ st.plan.settings.horizon
IsUncounted st (Edit change strict) =
    IsSome (edit_fault st.plan change) ⊎ IfSome (slot_touched st.plan change) (λ t. st.now ≤ t)

-- how far checkpoints lie apart this many slots before now: near ones at most 32 slots, within 256
abbrev pub distance_back : ℕ → ℕ → ℕ
distance_back back apart = if nat_le back near_slots then min apart near_distance else apart

-- how many slots an edit may replay of the now that were stepped, where this is the least slot that it touches and
-- checkpoints lie so far apart: from the last checkpoint not after it on; none where it is not below now
abbrev pub most_replayed : ℕ → ℕ → Option ℕ → ℕ
most_replayed now apart None = 0
most_replayed now apart (Some t) = if nat_lt t now then min now (now - t + distance_back (now - t) apart) else 0

-- how many slots a command may count: a step one, an edit those that it may replay
abbrev pub most_slots : Shown → Command → ℕ
most_slots d Step = 1
most_slots d (Edit change strict) = most_replayed d.state.now d.every (slot_touched d.state.plan change)

-- a snapshot: how many entries the history had, and what the desk showed then
pub record Seen : Type 0 where
  pub version : ℕ
  pub state : State
  pub rows : List (List (Option Pick))
  pub denials : List Denied

-- the snapshot stands for a history
pub record StandsForHistory (history : List Entry) (seen : Seen) : Type 0 where
  pub legal : IsLegal seen.state.plan.settings history
  pub last : last_state seen.state.plan.settings history ≡ seen.state
  pub version : seen.version ≡ length history
  pub of_run : AreOfRun seen.state.plan seen.state.now seen.rows seen.denials

-- what a snapshot of the desk shows
abbrev pub seen_of : Shown → Seen
seen_of d = record { version = length d.history; state = d.state; rows = d.rows; denials = d.denials }

-- a command made ready: the settings, the distance of checkpoints and the history of its desk, its entry, and what the
-- desk would then show
pub record Ready : Type 0 where
  pub settings : System
  pub every : ℕ
  pub history : List Entry
  pub entry : Entry
  pub seen : Seen

-- the desk has the settings, the distance and the history that the command was made ready for
pub record IsReadyFor (d : Shown) (ready : Ready) : Type 0 where
  pub settings : ready.settings ≡ d.state.plan.settings
  pub every : ready.every ≡ d.every
  pub history : ready.history ≡ d.history

-- a caller's command was made ready for this desk: with the machine's reply, and with a snapshot of the desk as it would
-- then be
pub record MakesReady (caller : ℕ) (command : Command) (d : Shown) (ready : Ready) : Type 0 where
  pub desk : IsReadyFor d ready
  pub entry : ready.entry ≡ entry_of caller command (reply_to d.state command)
  pub state : ready.seen.state ≡ state_after d.state command (reply_to d.state command)
  pub seen : StandsForHistory (d.history ++ ready.entry ∷ []) ready.seen
