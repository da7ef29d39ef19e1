use Rattle.std.proofs.Common.{take}
use Rattle.pf_place.specs.Lent.{lent_row}
use Rattle.pf_place.specs.Occupancy.{is_seated}
use Rattle.pf_tally.specs.Walk.{HaveRun}
use Rattle.pf_tally.proofs.walk.Walk.note_row.Given as goal

abbrev pub invariant-loop-processor : goal.invariant-loop-processor
invariant-loop-processor l = HaveRun l.initial.self l.self (is_seated (take l.processor (lent_row l.row))) l.t
