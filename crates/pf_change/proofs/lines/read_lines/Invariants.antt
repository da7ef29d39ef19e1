use Rattle.std.proofs.Common.{◌≡◌, ◌++◌, length}
use Rattle.pf_change.proofs.lines.read_lines.Given as goal

-- the lines read and those left are all lines, which end as those left do
abbrev pub invariant-records : goal.invariant-records
invariant-records l = record {
  lines : l.read.items ++ l.lines.lines ≡ l.fn.lines.lines;
  fault : l.lines.fault ≡ l.fn.lines.fault;
}

abbrev pub decreases-records : goal.decreases-records
decreases-records l = length l.lines.lines
