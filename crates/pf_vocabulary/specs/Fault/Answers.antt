-- What a task answers that was done.
use Rattle.std.specs.Prelude.{◌≡◌, ℕ, [], Result, Ok, Err}
use Rattle.pf_vocabulary.specs.declared.fault.ending.Ending.{Ending}
use Rattle.pf_vocabulary.specs.declared.fault.fault.Fault.{Fault}
use Rattle.pf_vocabulary.specs.declared.fault.status.Status.{Status}
use Rattle.pf_vocabulary.specs.Fault.Faults.{number_of, status_behind}

-- it ends with this status, and has nothing to tell
pub record IsQuiet (status : Status) (ending : Ending) : Type 0 where
  pub ends : ending.status ≡ status
  pub notes : ending.notes.items ≡ []

-- the number of the status of a task
abbrev pub status_of : Result Ending Fault → ℕ
status_of (Ok ending) = number_of ending.status
status_of (Err fault) = number_of (status_behind fault)
