use Rattle.std.proofs.Common.{◌≡◌, length}
use Rattle.pf_message.specs.Positions.{line_start}
use Rattle.pf_message.proofs.cursor.Cursor.go_to_line.Given as goal

-- the line is where it was
abbrev pub invariant-loop-byte : goal.invariant-loop-byte
invariant-loop-byte l = line_start l.line l.self ≡ line_start l.line l.fn.self

abbrev pub decreases-loop-byte : goal.decreases-loop-byte
decreases-loop-byte l = length l.self.left
