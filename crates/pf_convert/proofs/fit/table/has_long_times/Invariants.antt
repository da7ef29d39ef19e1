use Rattle.std.proofs.Common.{◌≡◌, drop}
use Rattle.pf_convert.specs.Fit.Table.{has_long_times}
use Rattle.pf_convert.proofs.fit.table.has_long_times.Given as goal

abbrev pub invariant-loop-task : goal.invariant-loop-task
invariant-loop-task l = has_long_times l.shown l.dues (drop l.task-index l.shown.tasks.now) ≡ has_long_times l.shown l.dues l.shown.tasks.now
