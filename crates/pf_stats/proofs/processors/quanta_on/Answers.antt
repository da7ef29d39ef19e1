use Rattle.std.proofs.Common.{arith}
use Rattle.pf_stats.proofs.Using.{quanta_left, quanta_over}
use Rattle.pf_stats.proofs.processors.quanta_on.Goals as goal

pub loop-t-preserved : goal.loop-t-preserved
loop-t-preserved c =
    let step = quanta_left c.args.processor c.args.snapshot.now.rows c.loop-t.t _ (omega arith) c.row_at.ensures.row in
    grind (arith, step, c.loop-t.invariant.all, c.loop-t.invariant.most, c.task_on-task.ensures, c.one_if_busy-quanta.ensures)

pub returns-clause-value : goal.returns-clause-value
returns-clause-value c =
    omega (arith, c.loop-t.invariant.all, quanta_over c.args.processor c.args.snapshot.now.rows c.loop-t.t (omega arith))
