use Rattle.std.proofs.Common.{◌≡◌, take, map}
use Rattle.pf_convert.specs.Plans.{rounded_task}
use Rattle.pf_convert.proofs.planning.rounded_tasks.Given as goal

abbrev pub invariant-loop-task : goal.invariant-loop-task
invariant-loop-task l = l.rounded.items ≡ map (rounded_task l.base) (take l.task-index l.tasks)
