-- A desk on which the lines of a script are carried out: its state by the desk machine, and the numbers that it gives.
use Rattle.std.specs.Prelude.{ℕ, List, [], ◌∷◌}
use Rattle.pf_desk.specs.Machine.{State, reply_to, state_after}
use Rattle.pf_desk.specs.declared.command.Command.{Command}
use Rattle.pf_desk.specs.declared.command.Command.TheVariants as command
use Rattle.pf_desk.specs.declared.reply.Reply.{Reply}
use Rattle.pf_desk.specs.declared.reply.Reply.TheVariants.{Edited, Stepped, Refused}
use Rattle.pf_script_desk.specs.Carrying.{Carrying}
use Rattle.pf_script.specs.declared.line.Line.{Line}
use Rattle.pf_script.specs.declared.line.Line.TheVariants.{Edit, Steps}
use Rattle.pf_script_desk.specs.Asked.{commands_of}

-- the state after some commands
abbrev pub state_behind : State → List Command → State
state_behind st [] = st
state_behind st (command ∷ commands) = state_behind (state_after st command (reply_to st command)) commands

-- the state of a desk once the commands that wait are answered
abbrev pub state_to_be : Carrying → State
state_to_be c = state_behind c.desk.state c.waiting

-- after what a line asks for
abbrev pub state_behind_line : State → Line → State
state_behind_line st line = state_behind st (commands_of line)

-- the number of the event in a reply; 0 where there is none
abbrev pub number_in : Reply → ℕ
number_in (Edited number) = number
number_in (Stepped slot row) = 0
number_in (Refused fault) = 0

-- the number that a desk in this state gives to the event of a line; 0 where it refuses it
abbrev pub number_given : State → Line → ℕ
number_given st (Edit change strict) = number_in (reply_to st (command.Edit change strict))
number_given st (Steps count) = 0
