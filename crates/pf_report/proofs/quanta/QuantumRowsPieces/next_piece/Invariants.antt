use Rattle.std.proofs.Common.{◌-◌, ◌≡◌, ◌≤◌, ◌++◌, [], drop, take}
use Rattle.pf_report.specs.Quanta.{quanta_records}
use Rattle.pf_text.specs.Page.{table_text}
use Rattle.pf_report.proofs.quanta.QuantumRowsPieces.next_piece.Given as goal

-- what the table has and the records left are the text that was left
abbrev pub invariant-loop-at : goal.invariant-loop-at
invariant-loop-at l = record {
  whole : l.table.text ++ table_text (quanta_records l.at (drop l.at (take l.self-inside.to l.self-inside.snapshot.now.rows)))
      ≡ table_text (quanta_records l.self-inside.at (drop l.self-inside.at (take l.self-inside.to l.self-inside.snapshot.now.rows)));
  fields : l.table.fields ≡ [];
  within : l.at ≤ l.self-inside.to;
}

abbrev pub decreases-loop-at : goal.decreases-loop-at
decreases-loop-at l = l.self-inside.to - l.at
