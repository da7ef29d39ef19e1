-- What is to come of a script that is carried out.
use Rattle.std.specs.Prelude.{⊤, ℕ, ◌≡◌, ◌+◌, ◌*◌, ◌<◌, Bool, true, false, if◌then◌else◌, List, [], ◌++◌, length, Result, Ok, Err}
use Rattle.pf_desk.specs.Desk.{Seen, Shown}
use Rattle.pf_script.specs.Told.{Told}
use Rattle.pf_vocabulary.specs.declared.options.format.Format.{Format}
use Rattle.pf_vocabulary.specs.Options.Formats.{has_replies}
use Rattle.pf_vocabulary.specs.declared.fault.fault.Fault.{Fault}
use Rattle.pf_vocabulary.specs.declared.fault.fault.Fault.TheVariants as why
use Rattle.pf_replies.specs.Batched.{Batched, course_to_be, lines_to_be, turns_left}
use Rattle.pf_replies.specs.Commands.{CommandsLeft}
use Rattle.pf_replies.specs.Course.{ScriptCourse, course_at, course_behind, outcome_at, outcome_told, ready_line, replies_told, reply_lines, seen_at, text_if_replies}

-- the commands that were not read yet, the desk, the format of the replies, and whether the line for the settings was taken; ..
pub record RepliesLeft : Type 0 where
  pub commands : CommandsLeft
  pub desk : Batched
  pub format : Format
  pub begun : Bool

-- the reply lines that are left, ..
abbrev pub lines_left : RepliesLeft → List ℕ
lines_left r =
    (if r.begun then [] else ready_line) ++ (lines_to_be r.desk ++ reply_lines (course_to_be r.desk) r.commands.commands)

-- .. as the text of a format, ..
abbrev pub text_left : RepliesLeft → List ℕ
text_left r = text_if_replies r.format (lines_left r)

-- .. where the commands leave the script, ..
abbrev pub outcome_left : RepliesLeft → Result ScriptCourse ℕ
outcome_left r = outcome_at (course_behind (course_to_be r.desk) r.commands.commands) r.commands.fault

-- .. and how many turns are left at most: the line for the settings takes one, a command three
abbrev pub first_turn : Bool → ℕ
first_turn true = 0
first_turn false = 1

abbrev pub turns_to_come : RepliesLeft → ℕ
turns_to_come r = 3 * length r.commands.commands + turns_left r.desk + first_turn r.begun

-- one turn was taken, and what is to come of the replies and of the script stays as it was
pub record GoesOn (before after : RepliesLeft) : Type 0 where
  pub text : text_left after ≡ text_left before
  pub outcome : outcome_left after ≡ outcome_left before
  pub turns : turns_to_come after < turns_to_come before

-- all commands were answered; nothing but that their end was read has changed
pub record IsAtEnd (before after : RepliesLeft) : Type 0 where
  pub same : after ≡ record before { commands = record before.commands { ended = true } }
  pub commands : before.commands.commands ≡ []
  pub waiting : before.desk.waiting ≡ []

-- whether there was something to carry out
abbrev pub CarriesOn : Bool → RepliesLeft → RepliesLeft → Type 0
CarriesOn true before after = GoesOn before after
CarriesOn false before after = IsAtEnd before after

-- a line was put after a text
pub record ShowsLine (was now : List ℕ) (before after : RepliesLeft) : Type 0 where
  pub text : was ++ text_left before ≡ now ++ text_left after
  pub outcome : outcome_left after ≡ outcome_left before
  pub turns : turns_to_come after < turns_to_come before

-- each reply so far has had its line, where the format has lines
abbrev pub HasNoLine : RepliesLeft → Type 0
HasNoLine r = has_replies r.format ≡ true → (r.begun ≡ true) × (r.desk.unshown ≡ [])

-- whether there was a line to show
abbrev pub ShowsNext : Bool → List ℕ → List ℕ → RepliesLeft → RepliesLeft → Type 0
ShowsNext true text more before after = ShowsLine text more before after
ShowsNext false text more before after = HasNoLine before × (after ≡ before) × (more ≡ text)

-- replies in this format to a script that tells this; or it has no good settings
abbrev pub OpensReplies : Format → Told → Result RepliesLeft Fault → Type 0
OpensReplies format t (Ok r) = (text_left r ≡ text_if_replies format (replies_told t)) × (outcome_left r ≡ outcome_told t)
OpensReplies format t (Err (why.BadRecord number)) = (replies_told t ≡ []) × (outcome_told t ≡ Err number)
OpensReplies format t (Err why.NoMemory) = ⊤
OpensReplies format t (Err fault) = ⊥

-- a script was not carried out to its end: this record is bad, or memory was refused
abbrev pub StopsAt : Result ScriptCourse ℕ → Fault → Type 0
StopsAt outcome (why.BadRecord number) = outcome ≡ Err number
StopsAt outcome why.NoMemory = ⊤
StopsAt outcome fault = ⊥

-- the desk where the commands leave the script, or its bad record
abbrev pub EndsBy : Result ScriptCourse ℕ → Result Shown Fault → Type 0
EndsBy outcome (Ok desk) = outcome ≡ Ok (course_at desk)
EndsBy outcome (Err fault) = StopsAt outcome fault

-- what is seen where they leave it, or its bad record
abbrev pub ShowsEnd : Result ScriptCourse ℕ → Result Seen Fault → Type 0
ShowsEnd outcome (Ok seen) = (c : ScriptCourse) × (outcome ≡ Ok c) × (seen ≡ seen_at c)
ShowsEnd outcome (Err fault) = StopsAt outcome fault
