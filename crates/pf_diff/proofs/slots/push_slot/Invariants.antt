use Rattle.std.proofs.Common.{◌≡◌, ◌++◌, [], drop}
use Rattle.pf_place.specs.Lent.{lent_row}
use Rattle.pf_text.specs.Page.{table_text}
use Rattle.pf_diff.specs.Diff.{row_changes}
use Rattle.pf_diff.proofs.slots.push_slot.Given as goal

-- what is written, and after it what differs on the processors left, is the whole of the slot
abbrev pub invariant-loop-processor : goal.invariant-loop-processor
invariant-loop-processor l = record {
  whole : l.table.text ++ table_text (row_changes l.t l.processor (drop l.processor (lent_row l.before)) (drop l.processor (lent_row l.after)))
      ≡ l.fn.table.text ++ table_text (row_changes l.t 0 (lent_row l.before) (lent_row l.after));
  at_record : l.table.fields ≡ [];
}
