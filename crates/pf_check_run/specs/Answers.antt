-- What is answered to a script that is checked and carried out.
use Rattle.std.specs.Prelude.{ℕ, ◌≡◌, ◌<◌, ◌⊎◌, Bool, false, ◌^◌, ◌-◌, Option, None, Some, List, [], ◌∷◌, ◌++◌, codes, length}
use Rattle.std.specs.Fmt.{decimal}
use Rattle.pf_script.specs.Check.Faults.{faults_count, faults_text}
use Rattle.pf_script.specs.Check.Lines.{count_of, text_of}
use Rattle.pf_script.specs.Check.Files.{record_count, script_messages}
use Rattle.pf_script.specs.Messages.Lines.{FaultMessage}
use Rattle.pf_script.specs.declared.check.found.Found.{Found}
use Rattle.pf_desk.specs.Desk.{Seen}
use Rattle.pf_vocabulary.specs.Fault.Answers.{IsQuiet}
use Rattle.pf_vocabulary.specs.declared.fault.answer.Answer.{Answer}
use Rattle.pf_vocabulary.specs.declared.fault.fault.Fault.{Fault}
use Rattle.pf_vocabulary.specs.declared.fault.fault.Fault.TheVariants as why
use Rattle.pf_stream.specs.Reading.{longest_script}
use Rattle.pf_vocabulary.specs.declared.fault.status.Status.{Status}
use Rattle.pf_vocabulary.specs.declared.fault.status.Status.TheVariants.{BadScript, Done}
use Rattle.pf_fit_command.specs.Fit.{IsSeenBehind}
use Rattle.pf_vocabulary.specs.declared.names.named.Named.{Named}
use Rattle.pf_plain_script.specs.Plain.{Plain, plain}
use Rattle.pf_plain_script.specs.declared.origin.Origin.{Origin}
use Rattle.pf_script_results.specs.Recount.{Recounted, recounted}
use Rattle.pf_run.specs.Computed.{run_of}
use Rattle.pf_run_notes.specs.Notes.{lists_text}
use Rattle.pf_script.specs.Told.{told}
use Rattle.pf_script_run.specs.Carried.{Stops}
use Rattle.pf_tally.specs.Misses.{misses_of}
use Rattle.pf_text.specs.Page.{table_text}

-- lines are told of as many refusals, denials and tasks with missed windows as can be counted
abbrev pub most_lines : ℕ
most_lines = 2 ^ 64 - 1

-- the last line: so many of each; how many records there were, commands refused, events denied, windows missed
unfoldable pub counted_text : ℕ → List ℕ → List ℕ
counted_text count words = decimal count ++ words

abbrev pub totals_line : ℕ → ℕ → ℕ → ℕ → List ℕ
totals_line records refused denied missed =
    counted_text records (codes " records, 0 faults, ") ++ counted_text refused (codes " refused, ") ++ counted_text denied (codes " denied, ")
    ++ counted_text missed (codes " missed\n")

abbrev pub totals_of : ℕ → Recounted → Seen → List ℕ
totals_of records came seen =
    totals_line records came.refusals.commands (length seen.denials)
    (length (misses_of seen.state.plan (run_of seen.state.plan seen.state.now)))

-- the lines before it
abbrev pub lists_of : List ℕ → Bool → List Named → Recounted → Seen → List ℕ
lists_of file hints names came seen = lists_text file hints names came.made came.refusals seen

abbrev pub status_of_lines : List ℕ → Status
status_of_lines [] = Done
status_of_lines (byte ∷ bytes) = BadScript

-- a script of version 1 or 2 of this file, with so many records, was carried out: what was refused, denied and missed is told, of
-- what was seen at its end, and of what its records came to. Where it belongs to a plan, `origins` are the records
-- there that its own come from
pub record Carries (file : List ℕ) (hints : Bool) (origins : Option (List Origin)) (names : List Named) (script : List ℕ) (records : ℕ) (answer : Answer) : Type 0 where
  pub seen : Seen
  pub behind : IsSeenBehind (told script) seen
  pub came : Recounted
  pub counted : Some came ≡ recounted file hints names origins most_lines false script
  pub text : answer.text.items ≡ lists_of file hints names came seen ++ totals_of records came seen
  pub ends : IsQuiet (status_of_lines (lists_of file hints names came seen)) answer.ending

-- the last line of a script that was not carried out
unfoldable pub not_run_line : ℕ → ℕ → List ℕ
not_run_line records lines = decimal records ++ codes " records, " ++ decimal lines ++ codes " faults; not run\n"

-- of what a check found
abbrev pub NotRunBy : Found → Answer → Type 0
NotRunBy f answer = answer.text.items ≡ text_of f.lines ++ not_run_line f.records (count_of f.lines)

-- a script with so many records has faults, and was not carried out
pub record NotRun (records : ℕ) (faults : List FaultMessage) (answer : Answer) : Type 0 where
  pub text : answer.text.items ≡ faults_text records faults ++ not_run_line records (faults_count records faults)
  pub ends : IsQuiet BadScript answer.ending

-- it has these faults, or else it was carried out
abbrev pub IsAnswer : ℕ → List FaultMessage → (Answer → Type 0) → Answer → Type 0
IsAnswer records [] IsCarried answer = IsCarried answer
IsAnswer records (m ∷ faults) IsCarried answer = NotRun records (m ∷ faults) answer

-- a script of this file, with so many records, was carried out: of a plan the script of version 2 that belongs to it
abbrev pub CarriesScript : Option Plain → List ℕ → Bool → List ℕ → ℕ → Answer → Type 0
CarriesScript None file hints script records answer = Carries file hints None [] script records answer
CarriesScript (Some p) file hints script records answer = Carries file hints (Some p.origins) p.titles.names (table_text p.records) records answer

-- the answer to a script of any version, of this file
abbrev pub ChecksRun : List ℕ → Bool → List ℕ → Answer → Type 0
ChecksRun file hints script answer =
    IsAnswer (record_count script) (script_messages file hints script) (CarriesScript (plain script) file hints script (record_count script)) answer

-- why a script of version 2 that belongs to a plan was not carried out: it is too long, or it stopped
abbrev pub IsStoppedWith : List ℕ → Fault → Type 0
IsStoppedWith text fault = ((fault ≡ why.TooLong) × (longest_script < length text)) ⊎ Stops (told text).rest.fault fault

-- what belongs to a plan is too long to be carried out
abbrev pub IsTooLong : Option Plain → Type 0
IsTooLong None = ⊥
IsTooLong (Some p) = longest_script < length (table_text p.records)

-- why there is no answer: memory was refused, or the script of version 2 that belongs to a plan is too long
abbrev pub IsStopped : List ℕ → Fault → Type 0
IsStopped script fault = (fault ≡ why.NoMemory) ⊎ ((fault ≡ why.TooLong) × IsTooLong (plain script))
