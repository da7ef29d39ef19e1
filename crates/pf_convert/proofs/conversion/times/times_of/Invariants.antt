use Rattle.std.proofs.Common.{◌≡◌, map, take}
use Rattle.pf_convert.proofs.conversion.times.times_of.Given as goal

abbrev pub invariant-loop-task : goal.invariant-loop-task
invariant-loop-task l = l.times.items ≡ map (λ t. t.times) (take l.task-index l.tasks)
