-- What a script asks of a desk: its settings and commands, or nothing where a record is bad.
use Rattle.std.specs.Prelude.{ℕ, Option, None, Some, List, [], ◌∷◌, ◌++◌, replicate}
use Rattle.pf_scenario.specs.System.{System}
use Rattle.pf_desk.specs.declared.command.Command.{Command}
use Rattle.pf_desk.specs.declared.command.Command.TheVariants as command
use Rattle.pf_script.specs.declared.line.Line.{Line}
use Rattle.pf_script.specs.declared.line.Line.TheVariants as line
use Rattle.pf_script.specs.declared.record.LineTold.{LineTold}
use Rattle.pf_script.specs.declared.record.ScriptSettings.{ScriptSettings}
use Rattle.pf_script.specs.Told.{FaultTold, LinesTold, Told, told}

-- one edit, or its steps
abbrev pub commands_of : Line → List Command
commands_of (line.Edit change strict) = command.Edit change strict ∷ []
commands_of (line.Steps count) = replicate count command.Step

-- what some lines ask for, one after another
abbrev pub commands_in : List LineTold → List Command
commands_in [] = []
commands_in (line ∷ lines) = commands_of line.asks ++ commands_in lines

-- a desk with these settings and these commands in order; or nothing, as the record of this number is bad, the first such
pub data Asked : Type 0 where
  Whole : System → List Command → Asked
  BadRecord : ℕ → Asked

-- this, or nothing where a record has a fault
abbrev pub asked_up_to : Option FaultTold → Asked → Asked
asked_up_to None asked = asked
asked_up_to (Some fault) asked = BadRecord fault.bad.number

-- a desk with these settings, and what the lines after them ask for
abbrev pub lines_asked : System → LinesTold → Asked
lines_asked settings rest = asked_up_to rest.fault (Whole settings (commands_in rest.lines))

-- a script that tells no settings has a fault
abbrev pub asked_of : Option ScriptSettings → LinesTold → Asked
asked_of None rest = asked_up_to rest.fault (BadRecord 1)
asked_of (Some opening) rest = lines_asked opening.settings rest

-- what a script asks for that tells this
abbrev pub asked_by : Told → Asked
asked_by told = asked_of told.opening told.rest

-- what a script of these bytes asks for
abbrev pub script_asked : List ℕ → Asked
script_asked bytes = asked_by (told bytes)
