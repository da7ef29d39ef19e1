-- A desk that is opened again by its script: the whole law.
use Rattle.std.specs.Prelude.{⊤, ◌≡◌, false, List, ◌++◌, map, replicate, All}
use Rattle.pf_scenario.specs.declared.change.Change.TheVariants.{Insert}
use Rattle.pf_run.specs.Computed.{run_of}
use Rattle.pf_tally.specs.Lags.{lags_of}
use Rattle.pf_tally.specs.Misses.{misses_of}
use Rattle.pf_desk.specs.declared.command.Command.{Command}
use Rattle.pf_desk.specs.declared.command.Command.TheVariants.{Edit, Step}
use Rattle.pf_desk.specs.declared.reply.Reply.{Reply}
use Rattle.pf_desk.specs.declared.reply.Reply.TheVariants.{Refused}
use Rattle.pf_desk.specs.Machine.{State}
use Rattle.pf_desk.specs.Desk.{Shown, IsDesk}
use Rattle.pf_script_laws.specs.Reopening.Taken.{renumbered}
use Rattle.pf_script_laws.specs.Reopening.Renumbered.{denied_under, new_number}

-- what the script of a state asks for: an insert of each event held, by number, and then each step
abbrev pub script_commands : State → List Command
script_commands st = map (λ x. Edit (Insert x.event) false) st.plan.events ++ replicate st.now Step

-- the command was not refused
abbrev pub IsTaken : Reply → Type 0
IsTaken (Refused fault) = ⊥
IsTaken reply = ⊤

-- The desk q shows what d does, with its events numbered from 1 on: no command of its history was refused, it has the
-- same settings, slots stepped, events but for their numbers, rows, lags and misses, and the same denials but for those
-- numbers.
pub record IsReopened (d q : Shown) : Type 0 where
  pub taken : All (λ e. IsTaken e.reply) q.history
  pub state : q.state ≡ record { plan = renumbered d.state.plan; now = d.state.now }
  pub rows : q.rows ≡ d.rows
  pub denials : q.denials ≡ map (denied_under (new_number d.state.plan.events)) d.denials
  pub lags : lags_of q.state.plan (run_of q.state.plan q.state.now) ≡ lags_of d.state.plan (run_of d.state.plan d.state.now)
  pub misses : misses_of q.state.plan (run_of q.state.plan q.state.now) ≡ misses_of d.state.plan (run_of d.state.plan d.state.now)

-- Commands reopen desks: a desk of the settings of another that has answered what the script of that one asks for, and
-- no more, shows what that one does, with its events numbered from 1 on.
abbrev pub CommandsReopenDesks : Type 0
CommandsReopenDesks =
    (d q : Shown) → IsDesk d → IsDesk q → q.state.plan.settings ≡ d.state.plan.settings
    → map (λ e. e.command) q.history ≡ script_commands d.state → IsReopened d q

-- such a desk there is
pub record CanBeReopened (d : Shown) : Type 0 where
  pub desk : Shown
  pub is_desk : IsDesk desk
  pub settings : desk.state.plan.settings ≡ d.state.plan.settings
  pub commands : map (λ e. e.command) desk.history ≡ script_commands d.state

abbrev pub DesksCanBeReopened : Type 0
DesksCanBeReopened = (d : Shown) → IsDesk d → CanBeReopened d
