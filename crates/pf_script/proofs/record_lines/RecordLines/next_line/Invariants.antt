use Rattle.std.proofs.Common.{◌≡◌}
use Rattle.pf_script.specs.Left.{lines_left}
use Rattle.pf_script.proofs.record_lines.RecordLines.next_line.Given as goal

-- a line passed is found
abbrev pub invariant-loop-self : goal.invariant-loop-self
invariant-loop-self l = record { lines : lines_left l.self ≡ lines_left l.fn.self }

abbrev pub decreases-loop-self : goal.decreases-loop-self
decreases-loop-self l = l.self.passed
