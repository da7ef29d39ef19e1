use Rattle.std.proofs.Common.{◌≡◌, drop}
use Rattle.pf_place.specs.Lent.{lent_row}
use Rattle.pf_notes.specs.Walk.{seated_pick}
use Rattle.pf_notes.proofs.delays.seated_pick.Given as goal

-- the task sits on none of the processors before
abbrev pub invariant-loop-processor : goal.invariant-loop-processor
invariant-loop-processor l = seated_pick (drop l.processor (lent_row l.row)) l.task ≡ seated_pick (lent_row l.row) l.task
