-- What the program answers to a task with a script of any version: with a plan by the script of version 2 that belongs
-- to it.
use Rattle.std.specs.Prelude.{ℕ, ◌≡◌, ◌+◌, ◌-◌, ◌⊎◌, ◌<◌, ◌≤◌, ◌==◌, ◌||◌, nat_lt, if◌then◌else◌, Bool, List, [], ◌∷◌, length, Option, None, Some, Result, Ok, Err}
use Rattle.std.specs.List.{slice_index_or}
use Rattle.std.specs.Io.KnownBytes.{Keeps}
use Rattle.pf_vocabulary.specs.declared.fault.answer.Answer.{Answer}
use Rattle.pf_vocabulary.specs.declared.fault.ending.Ending.{Ending}
use Rattle.pf_vocabulary.specs.declared.fault.fault.Fault.{Fault}
use Rattle.pf_vocabulary.specs.declared.fault.fault.Fault.TheVariants as why
use Rattle.pf_vocabulary.specs.Names.Titled.{untitled}
use Rattle.pf_plain_script.specs.declared.origin.Origin.{Origin}
use Rattle.pf_plain_script.specs.Plain.{Plain, plain}
use Rattle.pf_stream.specs.Reading.{longest_script}
use Rattle.pf_text.specs.Page.{table_text}
use Rattle.pf_arguments.specs.declared.task.Task.{Task}
use Rattle.pf_arguments.specs.declared.task.Task.TheVariants.{Run, RunTasks, Check, CheckRun, Diff, Drill, Convert, Fit, Why}
use Rattle.pf_cli.specs.Tasks.{AnswersMade, AnswersTask}
use Rattle.pf_cli.specs.Texts.{TextMade}

-- how many come from a record before this one
abbrev pub count_below : ℕ → List Origin → ℕ
count_below number [] = 0
count_below number (origin ∷ origins) = if nat_lt origin.number number then count_below number origins + 1 else count_below number origins

-- the number of the first record that comes from this record or a later one, the last one where none is given
abbrev pub since_in : Plain → Option ℕ → ℕ
since_in p None = count_below p.last p.origins + 1
since_in p (Some number) = count_below number p.origins + 1

-- the task with the script of version 2
abbrev pub task_in : Plain → Task → Task
task_in p (Run format fail_on) = Run format fail_on
task_in p (RunTasks format words fail_on) = RunTasks format words fail_on
task_in p Check = Check
task_in p CheckRun = CheckRun
task_in p (Diff since options) = Diff (Some (since_in p since)) options
task_in p Drill = Drill
task_in p (Convert conversion) = Convert conversion
task_in p (Fit asked) = Fit asked
task_in p (Why question) = Why question

-- the number of the record that the one of this number comes from
abbrev pub number_from : List Origin → ℕ → ℕ
number_from origins number =
    if (number == 0) || nat_lt (length origins) number then number
    else (slice_index_or origins (number - 1) (record { number = number; line = 0; column = 0 })).number

-- the same fault, with the number of the record that a bad one comes from
abbrev pub numbered_fault : List Origin → Fault → Fault
numbered_fault origins (why.BadRecord number) = why.BadRecord (number_from origins number)
numbered_fault origins fault = fault

abbrev pub numbered : {A : Type 0} → List Origin → Result A Fault → Result A Fault
numbered origins (Ok answer) = Ok answer
numbered origins (Err fault) = Err (numbered_fault origins fault)

-- the task was done with the script of version 2, whose records come from those of a plan
abbrev pub AnswersRecords : Plain → Bool → Task → List ℕ → Result Ending Fault → Option (List ℕ) → Option (List ℕ) → Type 0
AnswersRecords p hints task file inner old new = AnswersTask p.titles (Some p.origins) hints (task_in p task) file (table_text p.records) inner old new

abbrev pub AnswersPlain : Plain → Bool → Task → List ℕ → Result Ending Fault → Option (List ℕ) → Option (List ℕ) → Type 0
AnswersPlain p hints task file answer old new =
    (inner : Result Ending Fault) × AnswersRecords p hints task file inner old new × (answer ≡ numbered p.origins inner)

-- where that is short enough
pub record AnswersShort (p : Plain) (hints : Bool) (task : Task) (file : List ℕ) (answer : Result Ending Fault) (old new : Option (List ℕ)) : Type 0 where
  pub short : length (table_text p.records) ≤ longest_script → AnswersPlain p hints task file answer old new
  pub long : longest_script < length (table_text p.records) → (answer ≡ Err why.TooLong) × Keeps old new

-- the answer to a task with a plan that is carried out
abbrev pub AnswersPlan : Plain → Bool → Task → List ℕ → List ℕ → Result Ending Fault → Option (List ℕ) → Option (List ℕ) → Type 0
AnswersPlan p hints Check file script answer old new = ⊥
AnswersPlan p hints CheckRun file script answer old new = ⊥
AnswersPlan p hints (Run format fail_on) file script answer old new = AnswersShort p hints (Run format fail_on) file answer old new
AnswersPlan p hints (RunTasks format words fail_on) file script answer old new = AnswersShort p hints (RunTasks format words fail_on) file answer old new
AnswersPlan p hints (Diff since options) file script answer old new = AnswersShort p hints (Diff since options) file answer old new
AnswersPlan p hints Drill file script answer old new = AnswersShort p hints Drill file answer old new
AnswersPlan p hints (Convert conversion) file script answer old new = ⊥
AnswersPlan p hints (Fit asked) file script answer old new = AnswersShort p hints (Fit asked) file answer old new
AnswersPlan p hints (Why question) file script answer old new = AnswersShort p hints (Why question) file answer old new

-- the answer to a task with a script of any version that is carried out, in the file of this name
abbrev pub AnswersOf : Option Plain → Bool → Task → List ℕ → List ℕ → Result Ending Fault → Option (List ℕ) → Option (List ℕ) → Type 0
AnswersOf None hints task file script answer old new = AnswersTask untitled None hints task file script answer old new
AnswersOf (Some p) hints task file script answer old new = AnswersPlan p hints task file script answer old new

abbrev pub AnswersVersion : Bool → Task → List ℕ → List ℕ → Result Ending Fault → Option (List ℕ) → Option (List ℕ) → Type 0
AnswersVersion hints task file script answer old new =
    AnswersOf (plain script) hints task file script answer old new ⊎ ((answer ≡ Err why.NoMemory) × Keeps old new)

-- what was made of the text is written; where nothing was, it is a script that is carried out
abbrev pub AnswersText : Option (Result Answer Fault) → Bool → Task → List ℕ → List ℕ → Result Ending Fault → Option (List ℕ) → Option (List ℕ) → Type 0
AnswersText None hints task file text answer old new = AnswersVersion hints task file text answer old new
AnswersText (Some made) hints task file text answer old new = AnswersMade made answer old new

-- the answer to a task with a text, in the file of this name: a list of tasks, or a script or plan
abbrev pub AnswersBytes : Bool → Task → List ℕ → List ℕ → Result Ending Fault → Option (List ℕ) → Option (List ℕ) → Type 0
AnswersBytes hints task file text answer old new =
    (made : Option (Result Answer Fault)) × TextMade hints task file text made × AnswersText made hints task file text answer old new
