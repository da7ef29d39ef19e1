-- What the program answers to a task with a script, or with a list of tasks, and what it writes.
use Rattle.std.specs.Prelude.{ℕ, ⊤, ◌≡◌, Bool, List, [], Option, Some, option_map, IfOk, IfErr, Result, Ok, Err}
use Rattle.std.specs.Io.KnownBytes.{Appends, Keeps}
use Rattle.pf_vocabulary.specs.declared.fault.answer.Answer.{Answer}
use Rattle.pf_vocabulary.specs.declared.fault.ending.Ending.{Ending}
use Rattle.pf_vocabulary.specs.declared.fault.fault.Fault.{Fault}
use Rattle.pf_vocabulary.specs.declared.fault.fault.Fault.TheVariants as why
use Rattle.pf_vocabulary.specs.declared.fault.status.Status.TheVariants.{Done}
use Rattle.pf_vocabulary.specs.Fault.Answers.{IsQuiet}
use Rattle.pf_vocabulary.specs.Fault.Faults.{IsOutside}
use Rattle.pf_stream.specs.Written.{TookFront}
use Rattle.pf_vocabulary.specs.declared.names.titles.Titles.{Titles}
use Rattle.pf_script_desk.specs.Asked.{script_asked}
use Rattle.pf_vocabulary.specs.declared.options.diff_options.DiffOptions.{DiffOptions}
use Rattle.pf_vocabulary.specs.declared.options.fail_on.FailOn.{FailOn}
use Rattle.pf_vocabulary.specs.declared.options.format.Format.{Format}
use Rattle.pf_arguments.specs.declared.task.Task.{Task}
use Rattle.pf_arguments.specs.declared.task.Task.TheVariants.{Run, RunTasks, Check, CheckRun, Diff, Drill, Convert, Fit, Why}
use Rattle.pf_vocabulary.specs.Options.FailLists.{on_nothing}
use Rattle.pf_commands.specs.Answers.{Answers}
use Rattle.pf_commands.specs.Ended.{fails_on, run_status}
use Rattle.pf_commands.specs.Meaning.{script_meaning}
use Rattle.pf_commands.specs.Tasks.{RunsTasks}
use Rattle.pf_change.specs.Change.{change_meaning}
use Rattle.pf_change.specs.Difference.{told_by}
use Rattle.pf_change.specs.Made as change
use Rattle.pf_why_answer.specs.Answer.{WhyMade}
use Rattle.pf_script_run.specs.Carried as carried
use Rattle.pf_check_run.specs.Fit as fit
use Rattle.pf_vocabulary.specs.declared.options.fit_format.FitFormat.{FitFormat}
use Rattle.pf_plain_script.specs.declared.origin.Origin.{Origin}
use Rattle.pf_script.specs.Told.{told}
use Rattle.pf_drill.specs.Drilled.{Drills}
use Rattle.pf_drill.specs.Drilled as drill
use Rattle.pf_drill.specs.Gates.{SomeArrived}

-- the script, which has these titles and origins where it belongs to a plan, was run in this format: the writer took what it means, or a front of that, and the status tells whether the run
-- fails on what is listed, which it never does on nothing; where the range can't be shown the writer is as it was
pub record RunsScript (format : Format) (titles : Titles) (origins : Option (List Origin)) (fail_on : FailOn) (script : List ℕ) (answer : Result Ending Fault) (old new : Option (List ℕ)) : Type 0 where
  pub meaning : Answers (script_meaning format titles origins script) answer old new
  pub failing : IfOk answer (λ ending. option_map run_status (fails_on fail_on script) ≡ Some ending.status)
  pub unasked : fail_on ≡ on_nothing → IfOk answer (λ ending. ending.status ≡ Done)
  pub outside : IsOutside answer → Keeps old new

-- a text was made whole, and then written, all of it or a front; where none was made the writer is as it was
abbrev pub AnswersMade : Result Answer Fault → Result Ending Fault → Option (List ℕ) → Option (List ℕ) → Type 0
AnswersMade (Ok made) (Ok ending) old new = (ending ≡ made.ending) × Appends old new made.text.items
AnswersMade (Ok made) (Err why.Write) old new = TookFront old new made.text.items
AnswersMade (Ok made) (Err fault) old new = ⊥
AnswersMade (Err fault) answer old new = (answer ≡ Err fault) × Keeps old new

-- the answer to what the script's records from one on changed, or the last one
pub record ChangeMade (since : Option ℕ) (options : DiffOptions) (script : List ℕ) (made : Result Answer Fault) : Type 0 where
  pub tells : IfOk made (λ answer. change_meaning options since script ≡ Ok (told_by answer))
  pub quiet : IfOk made (λ answer. answer.ending.notes.items ≡ [])
  pub stopped : IfErr made (change.Stops (change_meaning options since script))

-- the answer to a drill of the script at gates that are open
pub record DrillMade (script : List ℕ) (made : Result Answer Fault) : Type 0 where
  pub text : IfOk made (λ answer. Drills (λ worker quantum. ⊤) (script_asked script) answer.text.items)
  pub quiet : IfOk made (λ answer. IsQuiet Done answer.ending)
  pub stopped : IfErr made (drill.Stops (SomeArrived (λ worker quantum. ⊥)) (script_asked script))

-- the answer to whether the script in the file of this name fits; origins where it belongs to a plan
pub record FitMade (format : FitFormat) (file : List ℕ) (hints : Bool) (origins : Option (List Origin)) (titles : Titles) (script : List ℕ) (made : Result Answer Fault) : Type 0 where
  pub answer : IfOk made (fit.FitMade format file hints origins titles script)
  pub stopped : IfErr made (carried.Stops (told script).rest.fault)

-- the answer to a task with a script that is carried out and has these titles, in the file of this name, and what the writer took;
-- origins where it belongs to a plan
abbrev pub AnswersTask : Titles → Option (List Origin) → Bool → Task → List ℕ → List ℕ → Result Ending Fault → Option (List ℕ) → Option (List ℕ) → Type 0
AnswersTask titles origins hints (Run format fail_on) file script answer old new = RunsScript format titles origins fail_on script answer old new
AnswersTask titles origins hints (RunTasks format words fail_on) file script answer old new = RunsTasks format titles words fail_on script answer old new
AnswersTask titles origins hints Check file script answer old new = ⊥
AnswersTask titles origins hints CheckRun file script answer old new = ⊥
AnswersTask titles origins hints (Diff since options) file script answer old new = (made : Result Answer Fault) × ChangeMade since options script made × AnswersMade made answer old new
AnswersTask titles origins hints Drill file script answer old new = (made : Result Answer Fault) × DrillMade script made × AnswersMade made answer old new
AnswersTask titles origins hints (Convert conversion) file script answer old new = ⊥
AnswersTask titles origins hints (Fit asked) file script answer old new =
    (made : Result Answer Fault) × FitMade asked.format file hints origins titles script made × AnswersMade made answer old new
AnswersTask titles origins hints (Why question) file script answer old new =
    (made : Result Answer Fault) × WhyMade titles.names question script made × AnswersMade made answer old new

-- a task with a script, and not with a list
abbrev pub IsOfScript : Task → Type 0
IsOfScript (Convert conversion) = ⊥
IsOfScript task = ⊤

-- a task that carries the script out
abbrev pub IsCarriedOut : Task → Type 0
IsCarriedOut Check = ⊥
IsCarriedOut CheckRun = ⊥
IsCarriedOut (Convert conversion) = ⊥
IsCarriedOut task = ⊤

-- where the status is `Done`, there is nothing to tell on standard error
abbrev pub IsQuietIfDone : Ending → Type 0
IsQuietIfDone ending = ending.status ≡ Done → ending.notes.items ≡ []
