use Rattle.std.proofs.Common.{◌≡◌, ◌+◌, ◌++◌, drop}
use Rattle.pf_convert.specs.Conversion.Script.{name_line, numbered}
use Rattle.pf_convert.proofs.conversion.script.push_names.Given as goal

abbrev pub invariant-loop-place : goal.invariant-loop-place
invariant-loop-place l = l.text.items ++ numbered name_line (l.place + 1) (drop l.place l.tasks) ≡ l.fn.text.items ++ numbered name_line 1 l.tasks
