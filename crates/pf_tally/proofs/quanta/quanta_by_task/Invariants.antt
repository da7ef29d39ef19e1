use Rattle.std.proofs.Common.{take}
use Rattle.pf_tally.specs.Noted.{IsTableOf}
use Rattle.pf_tally.proofs.quanta.quanta_by_task.Given as goal

abbrev pub invariant-loop-t : goal.invariant-loop-t
invariant-loop-t l = IsTableOf (take l.t l.rows) l.table
