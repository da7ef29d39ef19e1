use Rattle.pf_tally.specs.Walk.{HasWalked}
use Rattle.pf_tally.proofs.walk.Walk.walk_rows.Given as goal

abbrev pub invariant-loop-t : goal.invariant-loop-t
invariant-loop-t l = HasWalked l.rows l.from l.t l.initial.self l.self
