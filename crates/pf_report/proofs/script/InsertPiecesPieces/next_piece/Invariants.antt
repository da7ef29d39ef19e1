use Rattle.std.proofs.Common.{◌≡◌, ◌<◌, ◌++◌, [], length}
use Rattle.pf_report.specs.Script.{insert_records}
use Rattle.pf_text.specs.Page.{table_text}
use Rattle.pf_report.proofs.script.InsertPiecesPieces.next_piece.Given as goal

-- the records so far and those of the events left are the text that was left
abbrev pub invariant-events : goal.invariant-events
invariant-events l = record {
  whole : l.table.text ++ table_text (insert_records l.self-inside.events) ≡ l.fn.self;
  at_record : l.table.fields ≡ [];
  some : 0 < length l.table.text;
}

abbrev pub decreases-events : goal.decreases-events
decreases-events l = length l.self-inside.events
