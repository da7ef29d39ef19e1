use Rattle.pf_tally.proofs.Walks.{IsBehind}
use Rattle.pf_tally.proofs.walk.walk_run.Given as goal

abbrev pub invariant-loop-numbered : goal.invariant-loop-numbered
invariant-loop-numbered l = IsBehind l.tasks.items l.rows l.events l.numbered-index l.t l.walk
