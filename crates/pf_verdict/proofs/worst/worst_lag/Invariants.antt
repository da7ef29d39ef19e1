use Rattle.std.proofs.Common.{◌≡◌, None, fold, map, drop}
use Rattle.pf_verdict.specs.Worst.{lag_of, worse}
use Rattle.pf_verdict.proofs.worst.worst_lag.Given as goal

abbrev pub invariant-loop-task : goal.invariant-loop-task
invariant-loop-task l = fold worse l.worst (map lag_of (drop l.task-index l.figures)) ≡ fold worse None (map lag_of l.figures)
