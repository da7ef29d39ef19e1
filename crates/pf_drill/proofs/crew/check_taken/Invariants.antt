use Rattle.std.proofs.Common.{◌<◌, ℕ}
use Rattle.std.specs.Prelude.{slice_index_or}
use Rattle.pf_drill.specs.Gates.{HasTaken}
use Rattle.pf_drill.proofs.crew.check_taken.Given as goal

-- the quanta so far were taken
abbrev pub invariant-loop-quantum : goal.invariant-loop-quantum
invariant-loop-quantum l = (k : ℕ) (d : _) → k < l.quantum-index → HasTaken l.shifts (slice_index_or l.issued k d)
