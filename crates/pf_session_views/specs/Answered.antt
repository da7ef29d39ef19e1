-- What the program answers to a script, of what is wanted.
use Rattle.std.specs.Prelude.{ℕ, List, [], codes, true, Option, Some, IfOk, IfErr, Result, Ok, Err}
use Rattle.pf_script_run.specs.Carried.{Stops}
use Rattle.pf_commands.specs.Answers.{Answers as Means}
use Rattle.pf_commands.specs.Meaning.{Meaning, script_meaning}
use Rattle.pf_vocabulary.specs.Fault.Answers.{IsQuiet}
use Rattle.pf_vocabulary.specs.declared.fault.answer.Answer.{Answer}
use Rattle.pf_vocabulary.specs.declared.fault.ending.Ending.{Ending}
use Rattle.pf_vocabulary.specs.declared.fault.fault.Fault.{Fault}
use Rattle.pf_vocabulary.specs.declared.fault.status.Status.TheVariants as status
use Rattle.pf_fit_command.specs.Fit.{FitMade}
use Rattle.pf_vocabulary.specs.declared.options.fit_format.FitFormat.TheVariants as fit
use Rattle.pf_vocabulary.specs.declared.names.titles.Titles.{Titles}
use Rattle.pf_plain_script.specs.declared.origin.Origin.{Origin}
use Rattle.pf_script.specs.Told.{told}
use Rattle.pf_why_answer.specs.Answer.{WhyMade}
use Rattle.pf_session_lines.specs.declared.wanted.Wanted.{Wanted}
use Rattle.pf_session_lines.specs.declared.wanted.Wanted.TheVariants.{Report, Why, Fit}

-- a run of a script that means this wrote its text to nothing, and fails on nothing; or it ended by a fault
abbrev pub Runs : Meaning → Result Answer Fault → Type 0
Runs m (Ok answer) = Means m (Ok answer.ending) (Some []) (Some answer.text.items) × IsQuiet status.Done answer.ending
Runs m (Err fault) = (text : List ℕ) × Means {A = Ending} m (Err fault) (Some []) (Some text)

-- whether a script fits, as text, with `-` for the name of its file
pub record Fits (titles : Titles) (origins : Option (List Origin)) (script : List ℕ) (made : Result Answer Fault) : Type 0 where
  pub answer : IfOk made (FitMade fit.Text (codes "-") true origins titles script)
  pub stopped : IfErr made (Stops (told script).rest.fault)

-- the answer to a script of version 1 or 2 with these titles; origins where it belongs to a plan
abbrev pub Answers : Wanted → Titles → Option (List Origin) → List ℕ → Result Answer Fault → Type 0
Answers (Report format) titles origins script made = Runs (script_meaning format titles origins script) made
Answers (Why question) titles origins script made = WhyMade titles.names question script made
Answers Fit titles origins script made = Fits titles origins script made
