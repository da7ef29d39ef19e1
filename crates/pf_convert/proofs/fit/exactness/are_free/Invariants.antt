use Rattle.std.proofs.Common.{◌≡◌, drop, not}
use Rattle.std.specs.List.{list_all}
use Rattle.pf_convert.specs.Fit.Exactness.{is_of_divisors}
use Rattle.pf_convert.proofs.fit.exactness.are_free.Given as goal

abbrev pub invariant-loop-task : goal.invariant-loop-task
invariant-loop-task l = list_all (λ t. not (is_of_divisors t.margin.least)) (drop l.task-index l.tasks) ≡ list_all (λ t. not (is_of_divisors t.margin.least)) l.tasks
