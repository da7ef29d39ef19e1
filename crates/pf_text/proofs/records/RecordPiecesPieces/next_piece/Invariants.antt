use Rattle.std.proofs.Common.{◌-◌, ◌≡◌, ◌<◌, ◌≤◌, ◌++◌, [], length}
use Rattle.pf_text.specs.Page.{table_text}
use Rattle.pf_text.proofs.records.RecordPiecesPieces.next_piece.Given as goal

-- what the table has and the records left are the text that was left, and the table has a record where one was passed
abbrev pub invariant-loop-at : goal.invariant-loop-at
invariant-loop-at g l = record {
  whole : l.table.text ++ table_text (g.R.Records.rest l.self-inside.records l.at) ≡ table_text (g.R.Records.rest l.self-inside.records l.self-inside.at);
  at_record : l.table.fields ≡ [];
  within : l.at ≤ l.count;
  behind : l.self-inside.at ≤ l.at;
  some : l.self-inside.at < l.at → 0 < length l.table.text;
}

abbrev pub decreases-loop-at : goal.decreases-loop-at
decreases-loop-at g l = l.count - l.at
