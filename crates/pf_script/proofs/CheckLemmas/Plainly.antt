-- The messages of a script of version 1 or 2, one record after another.
use Rattle.std.proofs.Common.{◌≡◌, ◌+◌, ℕ, true, List, [], ◌∷◌, length, Some, Result, Ok, Err, fold, refl, arith}
use Rattle.std.specs.Prelude.{nat_le}
use Rattle.std.proofs.lemmas.Bool.Decides.{nat_tests}
use Rattle.pf_script.specs.declared.fault.RecordFault.{RecordFault}
use Rattle.pf_script.specs.declared.record.Record.{Record}
use Rattle.pf_script.specs.declared.stage.Stage.{Stage}
use Rattle.pf_script.specs.declared.stage.Stage.TheVariants.{Beginning, Headed, Opened}
use Rattle.pf_script.specs.Parsing.{fault_at, record_at}
use Rattle.pf_script.specs.declared.fault.Reason.TheVariants.{NoSettings}
use Rattle.pf_script.specs.Places.{line_at, lines_behind, record_lines}
use Rattle.pf_script.specs.Script.{script_records}
use Rattle.pf_script.specs.Told.{Reading, Good, Bad, Missing, end_fault, end_reading, fault_told, faults_in, reading, readings, readings_from, stage_after}
use Rattle.pf_script.specs.Messages.Lines.{Telling, plain_message, plain_messages, told_one}
use Rattle.pf_script.specs.Check.Lines.{Lines, after_message, after_end, after_fault}
use Rattle.pf_script.proofs.CheckLemmas.Finding.{AreOf, after_all}

-- the lines of the records that are left, and of the end
abbrev pub lines_with : Telling → Lines → List Reading → Lines
lines_with t s [] = s
lines_with t s (Good told ∷ rest) = lines_with t s rest
lines_with t s (Bad f ∷ rest) = lines_with (told_one t) (after_message s (plain_message t f)) rest
lines_with t s (Missing f ∷ rest) = lines_with (told_one t) (after_end (plain_message t f) s) rest

-- the same by their numbers
pub record AreSplit (records : ℕ) (rs : List Reading) : Type 0 where
  pub are : (t : Telling) → AreOf records (plain_messages t (faults_in rs))
  pub lines : (t : Telling) (s : Lines) → lines_with t s rs ≡ fold (after_fault records) s (plain_messages t (faults_in rs))

split_lacking : (records number line : ℕ) → number ≡ records + 1 → AreSplit records (end_reading number line (Some (fault_at 0 NoSettings)))
unfolding plain_message
split_lacking records number line is =
    record { are = λ t. rw (after_all records number is) (refl, refl); lines = λ t s. rw (after_all records number is) refl }

split_end : (records number line : ℕ) (stage : Stage) → number ≡ records + 1 → AreSplit records (end_reading number line (end_fault stage))
split_end records number line Beginning is = split_lacking records number line is
split_end records number line Headed is = split_lacking records number line is
split_end records number line (Opened version) is = record { are = λ t. tt; lines = λ t s. refl }

split_next : (records number line : ℕ) (fields : List (List ℕ)) (r : Result Record RecordFault) (rest : List Reading)
    → nat_le number records ≡ true → AreSplit records rest → AreSplit records (reading number line fields r ∷ rest)
unfolding plain_message
split_next records number line fields (Ok said) rest low split = record { are = split.are; lines = split.lines }
split_next records number line fields (Err fault) rest low split = record {
  are = λ t. rw low (split.are (told_one t));
  lines = λ t s. rw low (split.lines (told_one t) (after_message s (plain_message t (fault_told number line fields fault))));
}

split_from : (total : ℕ) (stage : Stage) (number : ℕ) (lines : List ℕ) (records : List (List (List ℕ)))
    → number + length records ≡ total + 1 → AreSplit total (readings_from stage number lines records)
unfolding readings_from
split_from total stage number lines [] is = split_end total number (line_at lines) stage (omega (arith, is))
split_from total stage number lines (fields ∷ records) is =
    split_next total number (line_at lines) fields (record_at stage fields) _ (grind (arith, nat_tests, is))
    (split_from total (stage_after stage (record_at stage fields)) (number + 1) (lines_behind lines) records (omega (arith, is)))

-- Use: all readings of a script.
pub split_readings : (script : List ℕ) → AreSplit (length (script_records script)) (readings script)
split_readings script =
    split_from (length (script_records script)) Beginning 1 (record_lines script) (script_records script) (omega arith)
