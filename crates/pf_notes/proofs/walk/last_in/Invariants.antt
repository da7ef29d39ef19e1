use Rattle.std.proofs.Common.{◌≡◌}
use Rattle.pf_notes.specs.Walk.{last_in}
use Rattle.pf_notes.proofs.walk.last_in.Given as goal

abbrev pub decreases-loop-at : goal.decreases-loop-at
decreases-loop-at l = l.at

abbrev pub invariant-loop-at : goal.invariant-loop-at
invariant-loop-at l = last_in l.rows l.task l.at ≡ last_in l.rows l.task l.t
