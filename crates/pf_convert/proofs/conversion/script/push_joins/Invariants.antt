use Rattle.std.proofs.Common.{◌≡◌, ◌+◌, ◌++◌, drop}
use Rattle.pf_convert.specs.Conversion.Script.{join_line, numbered}
use Rattle.pf_convert.proofs.conversion.script.push_joins.Given as goal

abbrev pub invariant-loop-place : goal.invariant-loop-place
invariant-loop-place l = l.text.items ++ numbered join_line (l.place + 1) (drop l.place l.tasks) ≡ l.fn.text.items ++ numbered join_line 1 l.tasks
