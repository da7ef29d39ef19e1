use Rattle.std.proofs.Common.{◌≡◌, None, fold, filter_map, drop}
use Rattle.pf_verdict.specs.Worst.{response_of, worse}
use Rattle.pf_verdict.proofs.worst.worst_response.Given as goal

abbrev pub invariant-loop-task : goal.invariant-loop-task
invariant-loop-task l =
    fold worse l.worst (filter_map response_of (drop l.task-index l.figures)) ≡ fold worse None (filter_map response_of l.figures)
