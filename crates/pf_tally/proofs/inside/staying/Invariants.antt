use Rattle.std.proofs.Common.{◌≡◌, not, filter, take}
use Rattle.pf_run.specs.Inside.{has_left}
use Rattle.pf_collections.specs.Table.Lists.{noted_of}
use Rattle.pf_tally.proofs.inside.staying.Given as goal

abbrev pub invariant-loop-task : goal.invariant-loop-task
invariant-loop-task l = l.staying.items ≡ filter (λ j. not (has_left (noted_of l.diaries j.task) j.task)) (take l.task-index l.tasks)
