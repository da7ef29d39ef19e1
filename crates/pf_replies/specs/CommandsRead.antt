-- The commands that are left of a script's lines.
use Rattle.std.specs.Prelude.{ℕ, ◌++◌, is_some, List, [], Option, None, Some, replicate}
use Rattle.pf_desk.specs.declared.command.Command.{Command}
use Rattle.pf_desk.specs.declared.command.Command.TheVariants.{Step}
use Rattle.pf_script_desk.specs.Asked.{commands_in}
use Rattle.pf_script.specs.Told.{LinesTold}
use Rattle.pf_replies.specs.declared.commands.Commands.TheInside.{Inside}
use Rattle.pf_replies.specs.Commands.{CommandsLeft}
use Rattle.pf_replies.specs.Course.{fault_number}

-- those of the lines, and the number of the bad record, where their end was not read yet
abbrev pub line_commands : Option (Option ℕ) → LinesTold → List Command
line_commands None told = commands_in told.lines
line_commands (Some end) told = []

abbrev pub line_fault : Option (Option ℕ) → LinesTold → Option ℕ
line_fault None told = fault_number told.fault
line_fault (Some end) told = end

abbrev pub commands_left : Inside → CommandsLeft
commands_left c = record {
  commands = replicate c.steps Step ++ line_commands c.end c.lines;
  fault = line_fault c.end c.lines;
  ended = is_some c.end;
}
