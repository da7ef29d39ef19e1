use Rattle.std.proofs.Common.{◌≡◌, drop}
use Rattle.std.specs.Prelude.{max}
use Rattle.pf_convert.specs.Conversion.Script.{last_join}
use Rattle.pf_convert.proofs.conversion.script.last_join.Given as goal

abbrev pub invariant-loop-task : goal.invariant-loop-task
invariant-loop-task l = max l.last (last_join (drop l.task-index l.tasks)) ≡ last_join l.tasks
