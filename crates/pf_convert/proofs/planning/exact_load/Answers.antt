use Rattle.pf_convert.proofs.Planned.{exact_loaded}
use Rattle.pf_convert.proofs.planning.exact_load.Goals as goal

pub loop-task-preserved : goal.loop-task-preserved
loop-task-preserved c =
    exact_loaded c.args.base c.args.tasks.now c.loop-task.task-index c.loop-task.load _ c.loop-task-test.true c.requires.within c.requires.common
    c.requires.slotted c.loop-task.invariant
