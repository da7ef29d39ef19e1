-- What a run means of which some tasks alone are shown.
use Rattle.std.specs.Prelude.{ℕ, ◌≡◌, ◌⊎◌, List, [], ◌++◌, codes, Option, None, Some, Result, Ok, Err, IfOk, IfErr}
use Rattle.std.specs.Io.KnownBytes.{Keeps}
use Rattle.pf_vocabulary.specs.declared.fault.ending.Ending.{Ending}
use Rattle.pf_vocabulary.specs.declared.fault.fault.Fault.{Fault}
use Rattle.pf_vocabulary.specs.declared.fault.fault.Fault.TheVariants as why
use Rattle.pf_vocabulary.specs.declared.fault.status.Status.TheVariants.{BadWords}
use Rattle.pf_vocabulary.specs.Fault.Answers.{IsQuiet}
use Rattle.pf_formats.specs.TaskReport.{task_report_text}
use Rattle.pf_vocabulary.specs.declared.names.titles.Titles.{Titles}
use Rattle.pf_vocabulary.specs.Options.Formats.{range_fault}
use Rattle.pf_vocabulary.specs.declared.options.fail_on.FailOn.{FailOn}
use Rattle.pf_vocabulary.specs.declared.options.format.Format.{Format}
use Rattle.pf_script.specs.Told.{told}
use Rattle.pf_vocabulary.specs.TaskWords.Finding.{ranges_of, unnamed_in}
use Rattle.pf_vocabulary.specs.declared.task_words.task_word.TaskWord.{TaskWord}
use Rattle.pf_vocabulary.specs.declared.tasks.task_range.TaskRange.{TaskRange}
use Rattle.pf_commands.specs.Answers.{Answers}
use Rattle.pf_replies.specs.Carried.{StopsAt}
use Rattle.pf_commands.specs.Ended.{is_failing, run_status}
use Rattle.pf_replies.specs.Course.{ScriptCourse, outcome_told, seen_at}
use Rattle.pf_commands.specs.Meaning.{Meaning, text_unless}

-- what is shown of the tasks of these ranges at a course, where the format can be shown of the slots stepped, and else nothing
abbrev pub tasks_meaning : Format → Titles → List TaskRange → ScriptCourse → Meaning
tasks_meaning format titles tasks c =
    text_unless (range_fault format c.state.now) (task_report_text format (seen_at c) titles tasks)

-- a name is told that is that of no task
abbrev pub unnamed_line : List ℕ → List ℕ
unnamed_line name = codes "\"" ++ (name ++ codes "\" names no task\n")

pub record IsUnnamed (name : List ℕ) (ending : Ending) : Type 0 where
  pub status : ending.status ≡ BadWords
  pub notes : ending.notes.items ≡ unnamed_line name

-- The answer where the script ends at this course. A name of the list that is that of no task is told, and the writer is as it
-- was; else the writer took what the tasks of the list mean, or a front of it, and the status tells whether the run fails on that.
abbrev pub AnswersListed : Format → Titles → List TaskWord → FailOn → ScriptCourse → Option (List ℕ) → Result Ending Fault → Option (List ℕ) → Option (List ℕ) → Type 0
AnswersListed format titles words on c (Some name) answer old new =
    IfOk answer (IsUnnamed name) × IfErr answer (λ fault. fault ≡ why.NoMemory) × Keeps old new
AnswersListed format titles words on c None answer old new =
    Answers (tasks_meaning format titles (ranges_of titles.names words) c) answer old new
    × IfOk answer (IsQuiet (run_status (is_failing on c)))

-- the script is carried out to its end, and answered there
abbrev pub EndsListed : Format → Titles → List TaskWord → FailOn → List ℕ → Result Ending Fault → Option (List ℕ) → Option (List ℕ) → Type 0
EndsListed format titles words on script answer old new =
    (c : ScriptCourse) × (outcome_told (told script) ≡ Ok c)
    × AnswersListed format titles words on c (unnamed_in titles.names words) answer old new

-- or it is not, and the writer is as it was
abbrev pub StopsUnwritten : List ℕ → Result Ending Fault → Option (List ℕ) → Option (List ℕ) → Type 0
StopsUnwritten script answer old new = (fault : Fault) × (answer ≡ Err fault) × StopsAt (outcome_told (told script)) fault × Keeps old new

-- the answer to a script of which the tasks of a list are shown, and what the writer took
abbrev pub RunsTasks : Format → Titles → List TaskWord → FailOn → List ℕ → Result Ending Fault → Option (List ℕ) → Option (List ℕ) → Type 0
RunsTasks format titles words on script answer old new =
    EndsListed format titles words on script answer old new ⊎ StopsUnwritten script answer old new
