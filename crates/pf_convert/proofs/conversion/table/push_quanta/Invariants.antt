use Rattle.std.proofs.Common.{◌≡◌, ◌++◌, drop}
use Rattle.pf_convert.specs.Conversion.Script.{numbered}
use Rattle.pf_convert.specs.Conversion.Table.{quantum_line}
use Rattle.pf_convert.proofs.conversion.table.push_quanta.Given as goal

abbrev pub invariant-loop-place : goal.invariant-loop-place
invariant-loop-place l = l.text.items ++ numbered (quantum_line l.series) l.place (drop l.place l.all) ≡ l.fn.text.items ++ numbered (quantum_line l.series) 0 l.all
