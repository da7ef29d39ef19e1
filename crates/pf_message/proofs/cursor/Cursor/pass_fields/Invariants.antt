use Rattle.std.proofs.Common.{◌≡◌, length}
use Rattle.pf_message.specs.Positions.{field_from, field_start}
use Rattle.pf_message.proofs.cursor.Cursor.pass_fields.Given as goal

-- the field is where it was
abbrev pub invariant-loop-byte : goal.invariant-loop-byte
invariant-loop-byte l = field_from l.left l.part l.self.position l.self.before l.self.left ≡ field_start l.commas l.fn.self

abbrev pub decreases-loop-byte : goal.decreases-loop-byte
decreases-loop-byte l = length l.self.left
