use Rattle.std.proofs.Common.{◌≡◌, true, length}
use Rattle.pf_message.specs.Positions.{shown_start}
use Rattle.pf_message.proofs.cursor.Cursor.pass_blanks.Given as goal

-- the first byte that is no blank is where it was
abbrev pub invariant-loop-byte : goal.invariant-loop-byte
invariant-loop-byte l = shown_start true l.self ≡ shown_start true l.fn.self

abbrev pub decreases-loop-byte : goal.decreases-loop-byte
decreases-loop-byte l = length l.self.left
