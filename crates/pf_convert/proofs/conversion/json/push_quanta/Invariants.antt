use Rattle.std.proofs.Common.{◌≡◌, ◌++◌, drop}
use Rattle.pf_convert.specs.Conversion.Json.{quantum_item}
use Rattle.pf_convert.specs.Conversion.Script.{numbered}
use Rattle.pf_convert.proofs.conversion.json.push_quanta.Given as goal

abbrev pub invariant-loop-place : goal.invariant-loop-place
invariant-loop-place l = l.text.items ++ numbered (quantum_item l.file l.series) l.place (drop l.place l.all) ≡ l.fn.text.items ++ numbered (quantum_item l.file l.series) 0 l.all
