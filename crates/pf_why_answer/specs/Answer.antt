-- What is answered about a slot of a script's run.
use Rattle.std.specs.Prelude.{ℕ, ◌≡◌, ◌-◌, ◌==◌, nat_lt, if◌then◌else◌, Option, None, Some, Result, Ok, Err, List, [], ◌++◌, codes}
use Rattle.std.specs.Fmt.{decimal}
use Rattle.pf_desk.specs.Desk.{Seen}
use Rattle.pf_vocabulary.specs.declared.fault.answer.Answer.{Answer}
use Rattle.pf_vocabulary.specs.declared.fault.fault.Fault.{Fault}
use Rattle.pf_vocabulary.specs.declared.fault.status.Status.{Status}
use Rattle.pf_vocabulary.specs.declared.fault.status.Status.TheVariants.{Done, BadWords}
use Rattle.pf_vocabulary.specs.Names.Names.{task_of}
use Rattle.pf_vocabulary.specs.declared.names.named.Named.{Named}
use Rattle.pf_script.specs.Told.{told}
use Rattle.pf_replies.specs.Carried.{StopsAt}
use Rattle.pf_replies.specs.Course.{ScriptCourse, outcome_told, seen_at}
use Rattle.pf_why_json.specs.Slot.{why_json}
use Rattle.pf_why_text.specs.Slot.{why_text}
use Rattle.pf_vocabulary.specs.declared.questions.question.Question.{Question}
use Rattle.pf_vocabulary.specs.declared.questions.question.WhyFormat.{WhyFormat}
use Rattle.pf_vocabulary.specs.declared.questions.question.WhyFormat.TheVariants.{Text, Json}
use Rattle.pf_vocabulary.specs.declared.questions.task_asked.TaskAsked.{TaskAsked}
use Rattle.pf_vocabulary.specs.declared.questions.task_asked.TaskAsked.TheVariants as asked

-- what goes to standard output and to standard error, and the status
pub record Told : Type 0 where
  pub text : List ℕ
  pub notes : List ℕ
  pub status : Status

pub record IsAnswer (t : Told) (answer : Answer) : Type 0 where
  pub text : answer.text.items ≡ t.text
  pub notes : answer.ending.notes.items ≡ t.notes
  pub status : answer.ending.status ≡ t.status

-- where the status is `Done`, there is nothing to tell on standard error
abbrev pub IsQuietIfDone : Answer → Type 0
IsQuietIfDone answer = answer.ending.status ≡ Done → answer.ending.notes.items ≡ []

-- nothing but a line on standard error
abbrev pub refused : List ℕ → Told
refused line = record { text = []; notes = line; status = BadWords }

-- the number of a task that is asked for; none where its name is that of no task
abbrev pub number_in : List Named → TaskAsked → Option ℕ
number_in names (asked.Number number) = Some number
number_in names (asked.Named name) = task_of names name

abbrev pub unnamed_line : TaskAsked → List ℕ
unnamed_line (asked.Number number) = []
unnamed_line (asked.Named name) = codes "\"" ++ (name ++ codes "\" names no task\n")

-- which of so many slots were stepped
abbrev pub stepped_text : ℕ → List ℕ
stepped_text now =
    if now == 0 then codes "none was"
    else if now == 1 then codes "slot 0 was"
    else codes "slots 0 to " ++ (decimal (now - 1) ++ codes " were")

-- slot t is not one of those
abbrev pub unbelow_line : ℕ → ℕ → List ℕ
unbelow_line t now = codes "slot " ++ (decimal t ++ (codes " was not stepped: " ++ (stepped_text now ++ codes "\n")))

-- the text of slot t in a format
abbrev pub answer_text : List Named → Seen → WhyFormat → ℕ → Option ℕ → List ℕ
answer_text names seen Text t asked = why_text names seen t asked
answer_text names seen Json t asked = why_json names seen t asked

-- where the slot was stepped; else that it was not
abbrev pub slot_told : List Named → Seen → WhyFormat → ℕ → Option ℕ → Told
slot_told names seen format t asked =
    if nat_lt t seen.state.now then record { text = answer_text names seen format t asked; notes = []; status = Done }
    else refused (unbelow_line t seen.state.now)

-- where the name that is asked for is that of a task; else that it is not
abbrev pub task_told : List Named → Seen → Question → TaskAsked → Option ℕ → Told
task_told names seen q task None = refused (unnamed_line task)
task_told names seen q task (Some number) = slot_told names seen q.format q.slot (Some number)

abbrev pub asked_told : List Named → Seen → Question → Option TaskAsked → Told
asked_told names seen q None = slot_told names seen q.format q.slot None
asked_told names seen q (Some task) = task_told names seen q task (number_in names task)

-- the answer to a question about what is seen
abbrev pub seen_told : List Named → Seen → Question → Told
seen_told names seen q = asked_told names seen q q.task

-- the answer about what is seen at the end of a script whose tasks have these names, or the fault for which it did not come to one
abbrev pub WhyMade : List Named → Question → List ℕ → Result Answer Fault → Type 0
WhyMade names q script (Ok answer) = (c : ScriptCourse) × (outcome_told (told script) ≡ Ok c) × IsAnswer (seen_told names (seen_at c) q) answer
WhyMade names q script (Err fault) = StopsAt (outcome_told (told script)) fault
