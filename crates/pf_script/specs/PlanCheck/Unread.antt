-- What is left of a plan that is read from fault to fault.
use Rattle.std.specs.Prelude.{ℕ, ◌≡◌, ◌+◌, nat_le, Bool, true, false, Option, None, Some, List, [], ◌∷◌, length}
use Rattle.pf_text.specs.Rows.Rows.{Table}
use Rattle.pf_script.specs.declared.plan.fault.BadRecord.{BadRecord}
use Rattle.pf_script.specs.declared.plan.state.Progress.{Progress}
use Rattle.pf_script.specs.PlanCheck.Checked.{faults_from, with_fault}
use Rattle.pf_script.specs.PlanCheck.Reports.{FaultShown, shown}

-- the faults that are left; how many records were read, and how many there are, each with the heading
pub record Unread : Type 0 where
  pub faults : List FaultShown
  pub read : ℕ
  pub records : ℕ
  pub progress : Progress

-- what is left behind the heading, where so many records were read and these rows were not; nothing, at the end
abbrev pub unread : Bool → Progress → ℕ → Table → Unread
unread true p number t = record { faults = []; read = number; records = number; progress = p }
unread false p number t = record { faults = faults_from p (number + 1) t.end t.rows; read = number; records = number + length t.rows; progress = p }

-- the fault of a heading with these fields is left too, where there is one
abbrev pub unread_under : Option BadRecord → List (List ℕ) → Unread → Unread
unread_under bad fields u = record u { faults = with_fault u.progress bad fields u.faults }

-- the next of the faults that were left, of a record with these fields. One after the last record is after those that were read
pub record IsNext (bad : BadRecord) (fields : List (List ℕ)) (old new : Unread) : Type 0 where
  pub faults : old.faults ≡ shown new.progress bad fields ∷ new.faults
  pub records : new.records ≡ old.records
  pub within : nat_le bad.number new.read ≡ nat_le bad.number new.records

-- or there was none, and all records were read
abbrev pub ReadsFault : Option BadRecord → List (List ℕ) → Unread → Unread → Type 0
ReadsFault (Some bad) fields old new = IsNext bad fields old new
ReadsFault None fields old new = (old.faults ≡ []) × (new ≡ record { faults = []; read = old.records; records = old.records; progress = new.progress })
