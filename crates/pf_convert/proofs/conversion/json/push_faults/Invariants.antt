use Rattle.std.proofs.Common.{◌≡◌, ◌++◌, drop}
use Rattle.pf_convert.specs.Conversion.Json.{fault_item}
use Rattle.pf_convert.specs.Conversion.Script.{numbered}
use Rattle.pf_convert.proofs.conversion.json.push_faults.Given as goal

abbrev pub invariant-loop-place : goal.invariant-loop-place
invariant-loop-place l = l.text.items ++ numbered (fault_item l.file l.arrivals l.quantum) l.place (drop l.place l.faults) ≡ l.fn.text.items ++ numbered (fault_item l.file l.arrivals l.quantum) 0 l.faults
