use Rattle.std.proofs.Common.{rules, ◌+◌, take, sym, subst}
use Rattle.pf_convert.specs.Totals.{IsTotal}
use Rattle.pf_convert.proofs.Totals.{AreTotalsTo, total_read, totals_more}
use Rattle.pf_convert.proofs.total.totals_of.Goals as goal

pub loop-task-preserved : goal.loop-task-preserved
loop-task-preserved c =
    let tasks = c.args.tasks.now in
    let i = c.loop-task.task-index in
    let next : IsTotal (take (i + 1) tasks) (record { cost = c.loop-task.total.cost + c.from.result; greatest = c.max.result }) =
    total_read tasks i c.from.result c.max.result c.loop-task.total _ c.loop-task-test.true c.loop-task.invariant.1 c.from.ensures c.max.ensures in (
      subst (AreTotalsTo tasks (i + 1)) (sym c.in_ok-push-2.ensures.items)
          (totals_more tasks i c.loop-task.totals.items _ c.loop-task.invariant.0 next),
      next,
      search rules,
    )
