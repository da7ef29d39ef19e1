-- What is known of a quantum with which a worker arrived at a gate.
use Rattle.std.specs.Prelude.{ℕ, ◌≡◌, ◌<◌, true, false, IfSome, All, List, Some, length, slice_index_or}
use Rattle.pf_board.specs.declared.quantum.Quantum.{Quantum}
use Rattle.pf_board.specs.Quanta.{times}
use Rattle.pf_drill.specs.declared.worker.Worker.{Worker}
use Rattle.pf_drill.specs.declared.shift.Shift.{Shift}

-- the worker whose pass is of the quantum's processor, and has taken it, arrived with it, and this is what the gate said
pub record Arrived (said : Worker → Quantum → Type 0) (q : Quantum) : Type 0 where
  pub worker : Worker
  pub processor : worker.pass.me ≡ q.processor
  pub took : 0 < times q worker.pass.taken
  pub answer : said worker q

-- a worker arrived with some quantum, and this is what the gate said
abbrev pub SomeArrived : (Worker → Quantum → Type 0) → Type 0
SomeArrived said = (q : Quantum) × Arrived said q

-- the worker arrived with what it took last, where it took anything: the gate let it in, or was shut to it
pub record Arrives (lets_in shuts_out : Worker → Quantum → Type 0) (w : Worker) : Type 0 where
  pub let_in : w.is_shut ≡ false → IfSome w.got (Arrived lets_in)
  pub shut_out : w.is_shut ≡ true → SomeArrived shuts_out

-- the gate let a worker in with all that this one tells it took, and was shut to one where it tells so
pub record IsToldOf (lets_in shuts_out : Worker → Quantum → Type 0) (s : Shift) : Type 0 where
  pub let_in : All (Arrived lets_in) s.taken.items
  pub shut_out : s.is_shut ≡ true → SomeArrived shuts_out

-- one of these workers tells that it took the quantum
pub record HasTaken (shifts : List Shift) (q : Quantum) : Type 0 where
  pub worker : ℕ
  pub is_worker : worker < length shifts
  pub shift : Shift
  pub is_shift : slice_index_or shifts worker shift ≡ shift
  pub at : ℕ
  pub is_at : at < length shift.taken.items
  pub quantum : slice_index_or shift.taken.items at q ≡ q
