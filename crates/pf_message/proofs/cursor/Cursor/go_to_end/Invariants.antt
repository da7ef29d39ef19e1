use Rattle.std.proofs.Common.{◌≡◌, length}
use Rattle.pf_message.specs.Positions.{text_end}
use Rattle.pf_message.proofs.cursor.Cursor.go_to_end.Given as goal

-- the end is where it was
abbrev pub invariant-loop-self : goal.invariant-loop-self
invariant-loop-self l = text_end l.self ≡ text_end l.fn.self

abbrev pub decreases-loop-self : goal.decreases-loop-self
decreases-loop-self l = length l.self.left
