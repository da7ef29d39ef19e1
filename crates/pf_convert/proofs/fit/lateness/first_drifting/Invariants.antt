use Rattle.std.proofs.Common.{◌≡◌, drop}
use Rattle.pf_convert.specs.Fit.Lateness.{first_drifting}
use Rattle.pf_convert.proofs.fit.lateness.first_drifting.Given as goal

abbrev pub invariant-loop-task : goal.invariant-loop-task
invariant-loop-task l = first_drifting l.quantum (drop l.task-index l.tasks) ≡ first_drifting l.quantum l.tasks
