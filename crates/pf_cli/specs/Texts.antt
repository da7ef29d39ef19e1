-- What the program makes of a text, of a script or of a list of tasks, without carrying a script out.
use Rattle.std.specs.Prelude.{ℕ, ◌≡◌, Bool, Option, None, Some, MatchOption, IfErr, IfOk, List, Result, Ok, Err}
use Rattle.pf_vocabulary.specs.declared.fault.answer.Answer.{Answer}
use Rattle.pf_vocabulary.specs.declared.fault.fault.Fault.{Fault}
use Rattle.pf_vocabulary.specs.declared.fault.fault.Fault.TheVariants as why
use Rattle.pf_arguments.specs.declared.task.Task.{Task}
use Rattle.pf_arguments.specs.declared.task.Task.TheVariants.{Check, CheckRun, Convert, Fit}
use Rattle.pf_commands.specs.Checks.{ChecksScript}
use Rattle.pf_check_run.specs.Answers.{ChecksRun, IsStopped}
use Rattle.pf_convert.specs.declared.words.conversion.Conversion.{Conversion}
use Rattle.pf_convert.specs.declared.words.fit_asked.FitAsked.{FitAsked}
use Rattle.pf_convert.specs.Conversion.Conversions.{MakesConversion}
use Rattle.pf_convert.specs.Fit.Asked.{AnswersFit}
use Rattle.pf_convert.specs.List.Kind.{is_list}

-- the answer to a check of a script of any version, in the file of this name
abbrev pub CheckMade : List ℕ → Bool → List ℕ → Result Answer Fault → Type 0
CheckMade file hints script (Ok made) = ChecksScript file hints script made
CheckMade file hints script (Err fault) = fault ≡ why.NoMemory

-- the answer to a script of any version that is checked and carried out, in the file of this name
pub record CheckRunMade (file : List ℕ) (hints : Bool) (script : List ℕ) (made : Result Answer Fault) : Type 0 where
  pub answer : IfOk made (ChecksRun file hints script)
  pub stopped : IfErr made (IsStopped script)

-- the answer to a list of tasks that is converted
abbrev pub ListConverted : Conversion → List ℕ → List ℕ → Result Answer Fault → Type 0
ListConverted conversion file list (Ok made) = MakesConversion file conversion list made
ListConverted conversion file list (Err fault) = fault ≡ why.NoMemory

-- the answer to whether a list fits, or that a word is for a list; none where it is for a script
abbrev pub FitOfList : List ℕ → List ℕ → FitAsked → Option (Result Answer Fault) → Type 0
FitOfList file text asked None = AnswersFit file text asked (is_list text) asked.list_word None
FitOfList file text asked (Some (Ok made)) = AnswersFit file text asked (is_list text) asked.list_word (Some made)
FitOfList file text asked (Some (Err fault)) = fault ≡ why.NoMemory

-- what a task makes of a text; none where it is one of a script that is carried out
abbrev pub TextMade : Bool → Task → List ℕ → List ℕ → Option (Result Answer Fault) → Type 0
TextMade hints Check file script made = MatchOption made ⊥ (CheckMade file hints script)
TextMade hints CheckRun file script made = MatchOption made ⊥ (CheckRunMade file hints script)
TextMade hints (Convert conversion) file list made = MatchOption made ⊥ (ListConverted conversion file list)
TextMade hints (Fit asked) file text made = FitOfList file text asked made
TextMade hints task file script made = made ≡ None
