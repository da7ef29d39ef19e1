-- The first fault of a script, record by record.
use Rattle.std.proofs.Common.{◌≡◌, ◌+◌, ℕ, Bool, true, false, List, [], ◌∷◌, length, Option, Some, None, Result, Ok, Err, refl, sym, ap, ◌∙◌, codes}
use Rattle.std.specs.Prelude.{⊤, ◌&&◌, ◌==◌, is_some, if◌then◌else◌}
use Rattle.std.specs.Result.{is_ok, result_ok}
use Rattle.pf_script.specs.declared.fault.RecordFault.{RecordFault}
use Rattle.pf_script.specs.declared.line.Line.{Line}
use Rattle.pf_script.specs.declared.record.Record.{Record}
use Rattle.pf_script.specs.declared.record.Record.TheVariants.{Heading, Settings, Asks}
use Rattle.pf_script.specs.declared.stage.Stage.{Stage}
use Rattle.pf_script.specs.declared.stage.Stage.TheVariants.{Beginning, Headed, Opened}
use Rattle.pf_script.specs.declared.version.Version.{Version}
use Rattle.pf_script.specs.declared.version.Version.TheVariants.{First, Second}
use Rattle.pf_script.specs.Fields.{is_word}
use Rattle.pf_script.specs.Grammar.{is_heading, line_of}
use Rattle.pf_script.specs.Parsing.{◌>>=◌, heading_at, line_at, opening_at, record_at}
use Rattle.pf_script.specs.Places.{record_lines, line_at as first_line, lines_behind}
use Rattle.pf_script.specs.Script.{script_records}
use Rattle.pf_script.specs.Told.{FaultTold, faults, faults_in, reading, readings_from, stage_after}
use Rattle.pf_script.proofs.Lined.{line_read}
use Rattle.pf_script.proofs.Opening.{IsSettled, opening_settled}
use Rattle.pf_script.specs.Check.Laws.{FirstFaultEndsReading, ReadScriptsHaveNoFault, bad_among, bad_line, bad_opening, first_number, is_settings}
use Rattle.pf_script.proofs.CheckLemmas.ReadRecords.{no_settings, opening_read}

-- the number of the first bad record from a stage on
abbrev first_from : Stage → ℕ → List ℕ → List (List (List ℕ)) → Option ℕ
first_from stage number lines records = first_number (faults_in (readings_from stage number lines records))

-- the same where a record is read as this
abbrev first_behind : Stage → ℕ → List ℕ → List (List ℕ) → List (List (List ℕ)) → Result Record RecordFault → Option ℕ
first_behind stage number lines fields records r =
    first_number (faults_in (reading number (first_line lines) fields r ∷ readings_from (stage_after stage r) (number + 1) (lines_behind lines) records))

first_line_from : (version : Version) (number : ℕ) (lines : List ℕ) (records : List (List (List ℕ)))
    → first_from (Opened version) number lines records ≡ bad_line version number records
unfolding readings_from record_at
first_line_from version number lines [] = refl
first_line_from version number lines (fields ∷ records) =
    by (line_at version fields) (line_of version fields) (line_read version fields) (first_line_from version (number + 1) (lines_behind lines) records)
  where
    by : (r : Result Line RecordFault) (o : Option Line) → result_ok r ≡ o
        → first_from (Opened version) (number + 1) (lines_behind lines) records ≡ bad_line version (number + 1) records
        → first_behind (Opened version) number lines fields records (r >>= λ line. Ok (Asks line))
        ≡ (if is_some o then bad_line version (number + 1) records else Some number)
    by (Ok line) o is more = rw (← is) more
    by (Err fault) o is more = rw (← is) refl

-- where the settings are expected
settings_then : (stage : Stage) (version : Version) (number : ℕ) (lines : List ℕ) (fields : List (List ℕ)) (records : List (List (List ℕ))) (r : Result Record RecordFault)
    → IsSettled version r
    → first_behind stage number lines fields records r ≡ (if is_ok r then bad_line version (number + 1) records else Some number)
settings_then stage version number lines fields records (Ok Heading) settled = absurd settled
settings_then stage version number lines fields records (Ok (Settings s)) settled =
    rw settled.1 (first_line_from version (number + 1) (lines_behind lines) records)
settings_then stage version number lines fields records (Ok (Asks line)) settled = absurd settled
settings_then stage version number lines fields records (Err fault) settled = refl

opening_then : (stage : Stage) (version : Version) (number : ℕ) (lines : List ℕ) (fields : List (List ℕ)) (records : List (List (List ℕ)))
    → first_behind stage number lines fields records (opening_at version fields) ≡ (if is_settings fields then bad_line version (number + 1) records else Some number)
opening_then stage version number lines fields records =
    settings_then stage version number lines fields records (opening_at version fields) (opening_settled version fields)
    ∙ ap (λ b. if b then bad_line version (number + 1) records else Some number) (opening_read version fields)

first_opening : (number : ℕ) (lines : List ℕ) (records : List (List (List ℕ))) → first_from Headed number lines records ≡ bad_opening Second number records
unfolding readings_from record_at
first_opening number lines [] = refl
first_opening number lines (fields ∷ records) = opening_then Headed Second number lines fields records

-- the first record is the heading, the settings, or bad
abbrev heading_or : Bool → Bool → Bool → RecordFault → RecordFault → Result Record RecordFault → Result Record RecordFault
heading_or named long second short why opening =
    if named then ((if long then Ok tt else Err short) >>= λ (_ : ⊤). if second then Ok Heading else Err why) else opening

first_record : (lines : List ℕ) (records : List (List (List ℕ))) → first_from Beginning 1 lines records ≡ bad_among records
unfolding readings_from record_at heading_at is_heading
first_record lines [] = refl
first_record lines (fields ∷ records) =
    by (is_word fields 0 (codes "pfair")) (length fields == 2) (is_word fields 1 (codes "2")) _ _ (no_settings fields)
  where
    by : (named long second : Bool) (short why : RecordFault) → (named ≡ true → is_settings fields ≡ false)
        → first_behind Beginning 1 lines fields records (heading_or named long second short why (opening_at First fields))
        ≡ (if (long && named) && second then bad_opening Second 2 records else if is_settings fields then bad_line First 2 records else Some 1)
    by true true true short why none = first_opening 2 (lines_behind lines) records
    by true true false short why none = rw (none refl) refl
    by true false second short why none = rw (none refl) refl
    by false true second short why none = opening_then Beginning First 1 lines fields records
    by false false second short why none = opening_then Beginning First 1 lines fields records

-- Use: the first fault of a script lies in the record at which its reading ends.
pub first_fault_ends_reading : FirstFaultEndsReading
first_fault_ends_reading script = first_record (record_lines script) (script_records script)

no_first : (told : List FaultTold) → first_number told ≡ None → told ≡ []
no_first [] none = refl
no_first (fault ∷ others) none = cc

-- Use: a script has no fault exactly where all of it is read.
pub read_scripts_have_no_fault : ReadScriptsHaveNoFault
read_scripts_have_no_fault script = (
  λ none. sym (first_fault_ends_reading script) ∙ ap first_number none,
  λ all. no_first (faults script) (first_fault_ends_reading script ∙ all),
)
