-- A desk on which commands are carried out, some of which wait.
use Rattle.std.specs.Prelude.{ℕ, ◌≡◌, List, [], ◌++◌}
use Rattle.pf_scenario.specs.System.{System}
use Rattle.pf_desk.specs.declared.command.Command.{Command}
use Rattle.pf_desk.specs.declared.reply.Reply.{Reply}
use Rattle.pf_desk.specs.Desk.{Shown, AnswersAll, AnswersCaller}
use Rattle.pf_desk.specs.Machine.{opening_state}

-- what the desk shows, and the commands that wait: none of them is answered yet
pub record Carrying : Type 0 where
  pub desk : Shown
  pub waiting : List Command

-- all commands of a script come from the one caller
abbrev pub script_caller : ℕ
script_caller = 0

-- opened with these settings and this distance of checkpoints in slots, with room for so many entries, and asked nothing yet
abbrev pub opened : System → ℕ → ℕ → Carrying
opened settings every spare = record {
  desk = record { state = opening_state settings; rows = []; denials = []; history = []; every = every; spare = spare };
  waiting = [];
}

-- it took these commands: of those that waited and these after them it answered the first ones, and the others wait
pub record HasTaken (commands : List Command) (before after : Carrying) : Type 0 where
  pub answered : List Command
  pub in_order : answered ++ after.waiting ≡ before.waiting ++ commands
  pub answers : AnswersAll script_caller answered before.desk after.desk

-- it answered those that waited, and then this command
pub record HasAnswered (command : Command) (before : Carrying) (reply : Reply) (after : Carrying) : Type 0 where
  pub between : Shown
  pub waited : AnswersAll script_caller before.waiting before.desk between
  pub answers : AnswersCaller script_caller command between reply after.desk
  pub none : after.waiting ≡ []
