use Rattle.std.proofs.Common.{◌≡◌, ◌++◌, drop}
use Rattle.pf_share.specs.Histories.{quanta_from}
use Rattle.pf_drill.proofs.planner.note_row.Given as goal

-- what was noted, and the quanta from the next processor on
abbrev pub invariant-loop-processor : goal.invariant-loop-processor
invariant-loop-processor l = l.issued.items ++ quanta_from l.slot l.processor (drop l.processor l.row) ≡ l.fn.issued.items ++ quanta_from l.slot 0 l.row
