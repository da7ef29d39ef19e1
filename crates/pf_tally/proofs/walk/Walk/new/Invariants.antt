use Rattle.std.proofs.Common.{take}
use Rattle.pf_tally.proofs.Walks.{IsEntered}
use Rattle.pf_tally.proofs.walk.Walk.new.Given as goal

abbrev pub invariant-loop-task : goal.invariant-loop-task
invariant-loop-task l = IsEntered (take l.task-index l.tasks) l.progress
