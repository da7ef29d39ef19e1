-- A script has few records, and few faults.
use Rattle.std.proofs.Common.{◌≡◌, ◌≤◌, ◌+◌, ℕ, zero, suc, Bool, true, false, List, [], ◌∷◌, length, Option, Some, None, Result, Ok, Err, refl, arith}
use Rattle.std.specs.Prelude.{if◌then◌else◌}
use Rattle.csv.specs.Machine.{Read, next_record}
use Rattle.csv.specs.Reading.{records_from, records_next, default_config, strip_bom, is_bom}
use Rattle.csv.specs.declared.parser.Config.{Config}
use Rattle.csv.specs.declared.parser.State.{State}
use Rattle.csv.specs.declared.parser.State.TheVariants as st
use Rattle.pf_script.specs.declared.fault.RecordFault.{RecordFault}
use Rattle.pf_script.specs.declared.record.Record.{Record}
use Rattle.pf_script.specs.declared.stage.Stage.{Stage}
use Rattle.pf_script.specs.declared.stage.Stage.TheVariants.{Beginning}
use Rattle.pf_script.specs.Parsing.{record_at}
use Rattle.pf_script.specs.Places.{record_lines, line_at, lines_behind}
use Rattle.pf_script.specs.Script.{script_records}
use Rattle.pf_script.specs.Told.{Reading, readings, readings_from, reading, end_reading, end_fault, stage_after, records_in}

few_from : (cfg : Config) (n : ℕ) (s : State) (bytes : List ℕ) → length (records_from cfg n s bytes) ≤ n
unfolding records_from
few_from cfg zero s bytes = omega arith
few_from cfg (suc n) s bytes = by (next_record cfg s [] [] bytes) (λ t rest. few_from cfg n t rest)
  where
    by : (o : Option Read) → ((t : State) (rest : List ℕ) → length (records_from cfg n t rest) ≤ n)
        → length (records_next (records_from cfg n) o) ≤ suc n
    by None few = omega arith
    by (Some p) few = let h = few p.1 p.2 in omega arith

-- without its mark a text is no longer
shorter : (bytes : List ℕ) → length (strip_bom bytes) ≤ length bytes
unfolding strip_bom
shorter [] = omega arith
shorter (a ∷ []) = omega arith
shorter (a ∷ b ∷ []) = omega arith
shorter (a ∷ b ∷ c ∷ rest) = by (is_bom a b c)
  where
    by : (m : Bool) → length (if m then rest else a ∷ b ∷ c ∷ rest) ≤ length (a ∷ b ∷ c ∷ rest)
    by true = omega arith
    by false = omega arith

-- Use: the number of a record fits.
pub few_records : (bytes : List ℕ) → length (script_records bytes) ≤ length bytes + 1
few_records bytes =
    omega (arith, few_from default_config (length (strip_bom bytes) + 1) st.StartRecord (strip_bom bytes), shorter bytes)

-- a reading to each record, and perhaps one to the end
end_records : (number line : ℕ) (o : Option RecordFault) → records_in (end_reading number line o) ≡ 0
end_records number line None = refl
end_records number line (Some fault) = refl

one_record : (number line : ℕ) (fields : List (List ℕ)) (r : Result Record RecordFault) (rest : List Reading)
    → records_in (reading number line fields r ∷ rest) ≡ 1 + records_in rest
one_record number line fields (Ok said) rest = refl
one_record number line fields (Err fault) rest = refl

records_from_count : (stage : Stage) (number : ℕ) (lines : List ℕ) (records : List (List (List ℕ)))
    → records_in (readings_from stage number lines records) ≡ length records
unfolding readings_from
records_from_count stage number lines [] = end_records number (line_at lines) (end_fault stage)
records_from_count stage number lines (fields ∷ records) =
    let more = records_from_count (stage_after stage (record_at stage fields)) (number + 1) (lines_behind lines) records in
    omega (
      arith,
      one_record number (line_at lines) fields (record_at stage fields)
          (readings_from (stage_after stage (record_at stage fields)) (number + 1) (lines_behind lines) records),
      more,
    )

-- Use: as many records are read as a script has.
pub records_counted : (bytes : List ℕ) → records_in (readings bytes) ≡ length (script_records bytes)
records_counted bytes = records_from_count Beginning 1 (record_lines bytes) (script_records bytes)
