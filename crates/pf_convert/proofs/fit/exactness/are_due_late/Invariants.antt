use Rattle.std.proofs.Common.{◌≡◌, drop, not}
use Rattle.std.specs.List.{list_all}
use Rattle.pf_convert.specs.Fit.Exactness.{is_due_early}
use Rattle.pf_convert.proofs.fit.exactness.are_due_late.Given as goal

abbrev pub invariant-loop-task : goal.invariant-loop-task
invariant-loop-task l = list_all (λ t. not (is_due_early t)) (drop l.task-index l.tasks) ≡ list_all (λ t. not (is_due_early t)) l.tasks
