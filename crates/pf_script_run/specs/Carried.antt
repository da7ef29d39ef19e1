-- A script that was carried out on a desk.
use Rattle.std.specs.Prelude.{⊤, ℕ, ◌≡◌, Option, None, Some, List, map}
use Rattle.pf_desk.specs.Desk.{Shown}
use Rattle.pf_desk.specs.declared.command.Command.{Command}
use Rattle.pf_desk.specs.declared.entry.Entry.{Entry}
use Rattle.pf_vocabulary.specs.declared.fault.fault.Fault.{Fault}
use Rattle.pf_vocabulary.specs.declared.fault.fault.Fault.TheVariants as why
use Rattle.pf_script_desk.specs.Asked.{commands_in}
use Rattle.pf_script.specs.Told.{FaultTold, Told}
use Rattle.pf_script.specs.declared.record.ScriptSettings.{ScriptSettings}

-- the commands of these entries
abbrev pub asked_in : List Entry → List Command
asked_in entries = map (λ e. e.command) entries

-- a desk that carried out a script that tells this: it has its settings, and was asked its commands, one after another
pub record IsOf (t : Told) (desk : Shown) : Type 0 where
  pub opening : ScriptSettings
  pub told : t.opening ≡ Some opening
  pub settings : desk.state.plan.settings ≡ opening.settings
  pub asked : asked_in desk.history ≡ commands_in t.rest.lines

-- the number of the record that is at fault
abbrev pub fault_number : Option FaultTold → Option ℕ
fault_number None = None
fault_number (Some fault) = Some fault.bad.number

-- a script with this fault was not carried out: its bad record stopped it, or running out of memory
abbrev pub Stops : Option FaultTold → Fault → Type 0
Stops told (why.BadRecord number) = fault_number told ≡ Some number
Stops told why.NoMemory = ⊤
Stops told why.Read = ⊥
Stops told why.Write = ⊥
Stops told why.TooLong = ⊥
Stops told (why.BadRange range) = ⊥
Stops told why.NoViewer = ⊥
Stops told why.Unread = ⊥
Stops told why.GateShut = ⊥
