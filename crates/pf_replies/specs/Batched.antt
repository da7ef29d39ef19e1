-- A desk with edits that wait, whose reply lines are taken one after another.
use Rattle.std.specs.Prelude.{ℕ, ◌+◌, ◌*◌, ◌≡◌, ◌≤◌, Bool, true, false, nat_lt, Option, None, Some, List, [], ◌∷◌, ◌++◌, length}
use Rattle.std.specs.List.{flat_map}
use Rattle.pf_desk.specs.declared.command.Command.{Command}
use Rattle.pf_desk.specs.declared.entry.Entry.{Entry}
use Rattle.pf_desk.specs.Machine.{reply_to}
use Rattle.pf_replies.specs.Course.{ScriptCourse, course_after, course_behind, reply_lines}
use Rattle.pf_report.specs.Replies.{reply_line}

-- how far the desk is, the commands that wait, and the entries of its history whose lines were not taken yet
pub record Batched : Type 0 where
  pub answered : ScriptCourse
  pub waiting : List Command
  pub unshown : List Entry

-- how far it is once those that wait are answered
abbrev pub course_to_be : Batched → ScriptCourse
course_to_be b = course_behind b.answered b.waiting

abbrev pub entry_lines : List Entry → List ℕ
entry_lines entries = flat_map (λ e. reply_line e.reply) entries

-- the lines that were not taken yet, and those of the commands that wait
abbrev pub lines_to_be : Batched → List ℕ
lines_to_be b = entry_lines b.unshown ++ reply_lines b.answered b.waiting

-- how many turns it has left at most: a command that waits may take two, a line takes one
abbrev pub turns_left : Batched → ℕ
turns_left b = 2 * length b.waiting + length b.unshown

-- it took a command
pub record HasTaken (command : Command) (before after : Batched) : Type 0 where
  pub course : course_to_be after ≡ course_after (course_to_be before) command
  pub lines : lines_to_be after ≡ lines_to_be before ++ reply_line (reply_to (course_to_be before).state command)
  pub turns : turns_left after ≤ turns_left before + 2

-- it answered the commands that waited
pub record HasAnswered (before after : Batched) : Type 0 where
  pub course : after.answered ≡ course_to_be before
  pub none : after.waiting ≡ []
  pub lines : entry_lines after.unshown ≡ lines_to_be before
  pub entries : length after.unshown ≡ length before.unshown + length before.waiting

-- its next line was put after a text
pub record HasShown (text more : List ℕ) (before after : Batched) : Type 0 where
  pub answered : after.answered ≡ before.answered
  pub waiting : after.waiting ≡ before.waiting
  pub lines : text ++ entry_lines before.unshown ≡ more ++ entry_lines after.unshown
  pub entries : length before.unshown ≡ length after.unshown + 1

-- whether it has a line, and it was put after a text
abbrev pub ShowsLine : Bool → List ℕ → List ℕ → Batched → Batched → Type 0
ShowsLine true text more before after = HasShown text more before after
ShowsLine false text more before after = (before.unshown ≡ []) × (after ≡ before) × (more ≡ text)

-- whether there is a slot, and it was stepped
abbrev pub is_before : ℕ → Option ℕ → Bool
is_before now None = false
is_before now (Some slot) = nat_lt slot now
