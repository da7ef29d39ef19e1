use Rattle.std.proofs.Common.{◌≡◌, ◌++◌, [], drop}
use Rattle.pf_place.specs.Lent.{lent_row}
use Rattle.pf_report.specs.Quanta.{row_records}
use Rattle.pf_text.specs.Page.{table_text}
use Rattle.pf_report.proofs.quanta.push_row.Given as goal

-- the text so far and the records left are the whole
abbrev pub invariant-loop-processor : goal.invariant-loop-processor
invariant-loop-processor l = record {
  text : l.table.text ++ table_text (row_records l.t l.processor (drop l.processor (lent_row l.row)))
      ≡ l.fn.table.text ++ table_text (row_records l.t 0 (lent_row l.row));
  whole : l.table.fields ≡ [];
}
