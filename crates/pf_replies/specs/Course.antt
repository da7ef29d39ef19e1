-- A script that is carried out: how far its desk is, where the commands leave it, and the lines of its replies.
use Rattle.std.specs.Prelude.{ℕ, Bool, false, ◌||◌, if◌then◌else◌, Option, None, Some, Result, Ok, Err, List, [], ◌∷◌, ◌++◌, codes, length}
use Rattle.std.specs.List.{list_any}
use Rattle.pf_scenario.specs.System.{System}
use Rattle.pf_run.specs.RunRows.{rows_in, denials_in}
use Rattle.pf_desk.specs.declared.command.Command.{Command}
use Rattle.pf_desk.specs.Machine.{State, opening_state, reply_to, state_after}
use Rattle.pf_desk.specs.Desk.{Seen, Shown}
use Rattle.pf_script_run.specs.Carried.{asked_in}
use Rattle.pf_script.specs.declared.record.ScriptSettings.{ScriptSettings}
use Rattle.pf_script_desk.specs.Asked.{commands_in}
use Rattle.pf_script.specs.Told.{FaultTold, Told}
use Rattle.pf_vocabulary.specs.declared.options.format.Format.{Format}
use Rattle.pf_vocabulary.specs.Options.Formats.{has_replies}
use Rattle.pf_report.specs.Replies.{is_refusal, reply_line, line_end}

-- how far a script is: the state of the desk machine, the commands that it has answered, whether it refused one of them, and
-- how far the checkpoints lie apart in slots
pub record ScriptCourse : Type 0 where
  pub state : State
  pub asked : List Command
  pub refused : Bool
  pub every : ℕ

-- the course of a desk that was opened and has answered no command
abbrev pub opening_course : ℕ → System → ScriptCourse
opening_course every settings = record { state = opening_state settings; asked = []; refused = false; every = every }

abbrev pub course_after : ScriptCourse → Command → ScriptCourse
course_after c command = record {
  state = state_after c.state command (reply_to c.state command);
  asked = c.asked ++ command ∷ [];
  refused = c.refused || is_refusal (reply_to c.state command);
  every = c.every;
}

abbrev pub course_behind : ScriptCourse → List Command → ScriptCourse
course_behind c [] = c
course_behind c (command ∷ commands) = course_behind (course_after c command) commands

-- the text where the format has reply lines, else nothing
abbrev pub text_if_replies : Format → List ℕ → List ℕ
text_if_replies format text = if has_replies format then text else []

-- the reply lines of these commands, one after another
abbrev pub reply_lines : ScriptCourse → List Command → List ℕ
reply_lines c [] = []
reply_lines c (command ∷ commands) = reply_line (reply_to c.state command) ++ reply_lines (course_after c command) commands

-- how far a desk is
abbrev pub course_at : Shown → ScriptCourse
course_at d = record {
  state = d.state;
  asked = asked_in d.history;
  refused = list_any (λ e. is_refusal e.reply) d.history;
  every = d.every;
}

-- what the desk shows there
abbrev pub seen_at : ScriptCourse → Seen
seen_at c = record {
  version = length c.asked;
  state = c.state;
  rows = rows_in c.state.plan c.state.now;
  denials = denials_in c.state.plan c.state.now;
}

-- where the commands of a script leave it: at a course, or at a bad record of this number
abbrev pub outcome_at : ScriptCourse → Option ℕ → Result ScriptCourse ℕ
outcome_at c None = Ok c
outcome_at c (Some number) = Err number

-- the number of the record that is at fault
abbrev pub fault_number : Option FaultTold → Option ℕ
fault_number None = None
fault_number (Some fault) = Some fault.bad.number

-- the reply to settings
abbrev pub ready_line : List ℕ
ready_line = codes "ready" ++ line_end

-- the replies to settings and the commands after them
abbrev pub replies_to : Option ScriptSettings → List Command → List ℕ
replies_to None commands = []
replies_to (Some s) commands = ready_line ++ reply_lines (opening_course s.every s.settings) commands

-- where they leave the script; one without settings has a fault
abbrev pub outcome_of : Option ScriptSettings → List Command → Option ℕ → Result ScriptCourse ℕ
outcome_of None commands None = Err 1
outcome_of None commands (Some number) = Err number
outcome_of (Some s) commands fault = outcome_at (course_behind (opening_course s.every s.settings) commands) fault

-- the same of what a script tells
abbrev pub replies_told : Told → List ℕ
replies_told t = replies_to t.opening (commands_in t.rest.lines)

abbrev pub outcome_told : Told → Result ScriptCourse ℕ
outcome_told t = outcome_of t.opening (commands_in t.rest.lines) (fault_number t.rest.fault)
