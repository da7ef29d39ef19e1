-- What a check of a script comes to.
use Rattle.std.specs.Prelude.{ℕ, ◌≡◌, ◌==◌, Bool, if◌then◌else◌, List, ◌++◌, codes}
use Rattle.std.specs.Fmt.{decimal}
use Rattle.pf_script.specs.Check.Faults.{faults_count, faults_text}
use Rattle.pf_script.specs.Check.Files.{record_count, script_messages}
use Rattle.pf_vocabulary.specs.declared.fault.answer.Answer.{Answer}
use Rattle.pf_vocabulary.specs.declared.fault.status.Status.{Status}
use Rattle.pf_vocabulary.specs.declared.fault.status.Status.TheVariants.{Done, BadScript}
use Rattle.pf_vocabulary.specs.Fault.Answers.{IsQuiet}

-- how many records and how many messages there are
unfoldable pub count_text : ℕ → ℕ → List ℕ
count_text records faults = decimal records ++ codes " records, " ++ decimal faults ++ codes " faults\n"

-- the status of a check, by how many messages it has
abbrev pub check_status : ℕ → Status
check_status faults = if faults == 0 then Done else BadScript

-- the text of a check of the script of this file
abbrev pub check_text : List ℕ → Bool → List ℕ → List ℕ
check_text file hints script =
    faults_text (record_count script) (script_messages file hints script)
    ++ count_text (record_count script) (faults_count (record_count script) (script_messages file hints script))

-- the answer to it, whose status tells whether there is a message
pub record ChecksScript (file : List ℕ) (hints : Bool) (script : List ℕ) (answer : Answer) : Type 0 where
  pub text : answer.text.items ≡ check_text file hints script
  pub ending : IsQuiet (check_status (faults_count (record_count script) (script_messages file hints script))) answer.ending
