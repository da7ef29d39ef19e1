use Rattle.std.proofs.Common.{◌*◌, ◌^◌, ◌≤◌, take}
use Rattle.pf_convert.specs.Totals.{IsTotal}
use Rattle.pf_convert.proofs.Totals.{AreTotalsTo}
use Rattle.pf_convert.proofs.total.totals_of.Given as goal

abbrev pub invariant-loop-task : goal.invariant-loop-task
invariant-loop-task l =
    AreTotalsTo l.tasks l.task-index l.totals.items × IsTotal (take l.task-index l.tasks) l.total × (l.total.cost ≤ l.task-index * 2 ^ 64)
