use Rattle.std.proofs.Common.{◌-◌, ◌≡◌, ◌≤◌, ◌++◌, [], drop}
use Rattle.pf_text.specs.Page.{table_text}
use Rattle.pf_diff.specs.Diff.{slot_changes}
use Rattle.pf_diff.proofs.slots.SlotPiecesPieces.next_piece.Given as goal

-- what is written, and after it what differs in the slots left, is the text that was left
abbrev pub invariant-loop-at : goal.invariant-loop-at
invariant-loop-at l = record {
  whole : l.table.text ++ table_text (slot_changes l.at (drop l.at l.self-inside.before.now.rows) (drop l.at l.self-inside.after.now.rows)) ≡ l.fn.self;
  at_record : l.table.fields ≡ [];
  within : l.at ≤ l.count;
}

abbrev pub decreases-loop-at : goal.decreases-loop-at
decreases-loop-at l = l.count - l.at
