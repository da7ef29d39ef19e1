use Rattle.std.proofs.Common.{◌∙◌}
use Rattle.pf_convert.proofs.Planned.{one_rounded}
use Rattle.pf_convert.proofs.planning.rounded_tasks.Goals as goal

pub loop-task-preserved : goal.loop-task-preserved
loop-task-preserved c =
    c.in_ok-push.ensures.items
    ∙ one_rounded c.args.base c.args.tasks.now c.loop-task.task-index c.rounded_down-period.result (record { cost = 0; period = 0; join = 0; early = 0 })
    c.loop-task.rounded.items c.loop-task-test.true c.rounded_down-period.ensures c.loop-task.invariant
