use Rattle.std.proofs.Common.{◌≡◌, length}
use Rattle.pf_message.specs.Positions.{ends_in_quotes}
use Rattle.pf_message.specs.declared.field_part.FieldPart.TheVariants.{Start}
use Rattle.pf_message.proofs.cursor.Cursor.ends_in_quotes.Given as goal

-- what is left ends in quotes where all does
abbrev pub invariant-loop-byte : goal.invariant-loop-byte
invariant-loop-byte l = ends_in_quotes l.part l.self.left ≡ ends_in_quotes Start l.fn.self.left

abbrev pub decreases-loop-byte : goal.decreases-loop-byte
decreases-loop-byte l = length l.self.left
