use Rattle.std.proofs.Common.{◌≡◌, ◌++◌, drop}
use Rattle.pf_convert.specs.Conversion.Json.{slots_item}
use Rattle.pf_convert.specs.Conversion.Script.{numbered}
use Rattle.pf_convert.proofs.conversion.json.push_slots.Given as goal

abbrev pub invariant-loop-place : goal.invariant-loop-place
invariant-loop-place l = l.text.items ++ numbered (slots_item l.quantum) l.place (drop l.place l.tasks) ≡ l.fn.text.items ++ numbered (slots_item l.quantum) 0 l.tasks
