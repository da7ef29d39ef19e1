use Rattle.pf_convert.proofs.Common.{one_more, no_more, of_all}
use Rattle.pf_convert.proofs.multiples.least_common.Goals as goal

pub loop-task-preserved : goal.loop-task-preserved
loop-task-preserved c =
    one_more c.args.tasks.now c.loop-task.task-index c.loop-task.least c.in_ok-least.least _ c.loop-task-test.true c.loop-task.invariant c.in_ok-least.ensures

pub returns-in_err-least : goal.returns-in_err-least
returns-in_err-least c =
    rw c.from_residual.ensures
    (no_more c.args.tasks.now c.loop-task.task-index c.loop-task.least _ c.loop-task-test.true c.loop-task.invariant c.in_err-least.ensures)

pub returns : goal.returns
returns c = of_all c.args.tasks.now c.loop-task.task-index c.loop-task.least c.loop-task-test.false c.loop-task.invariant
