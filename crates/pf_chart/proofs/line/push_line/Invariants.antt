use Rattle.std.proofs.Common.{◌≡◌, ◌++◌, ◌-◌, ◌≤◌, length}
use Rattle.std.specs.Prelude.{max, replicate}
use Rattle.pf_chart.proofs.line.push_line.Given as goal

abbrev pub invariant-loop-place : goal.invariant-loop-place
invariant-loop-place l = record {
  padded : l.line.items ≡ l.label ++ replicate (l.place - length l.label) 32;
  short : l.place ≤ max (length l.label) l.places;
}
