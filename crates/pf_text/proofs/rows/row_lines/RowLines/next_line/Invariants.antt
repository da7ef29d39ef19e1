use Rattle.std.proofs.Common.{◌≡◌, ◌-◌, length}
use Rattle.pf_text.specs.Rows.Left.{lines_ahead}
use Rattle.pf_text.proofs.rows.row_lines.RowLines.next_line.Given as goal

-- no record began
abbrev pub invariant-loop-self : goal.invariant-loop-self
invariant-loop-self l = record { lines : lines_ahead l.self ≡ lines_ahead l.fn.self }

abbrev pub decreases-loop-self : goal.decreases-loop-self
decreases-loop-self l = length l.self.bytes.now - l.self.at
