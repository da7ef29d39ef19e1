use Rattle.std.proofs.Common.{◌≡◌, ◌++◌, drop}
use Rattle.pf_convert.specs.Conversion.Json.{task_item}
use Rattle.pf_convert.specs.Conversion.Script.{numbered}
use Rattle.pf_convert.proofs.conversion.json.push_tasks.Given as goal

abbrev pub invariant-loop-place : goal.invariant-loop-place
invariant-loop-place l = l.text.items ++ numbered (task_item) l.place (drop l.place l.tasks) ≡ l.fn.text.items ++ numbered (task_item) 0 l.tasks
