use Rattle.std.proofs.Common.{◌≡◌, ◌++◌, drop}
use Rattle.pf_text.specs.Columns.Columns.{padded_from}
use Rattle.pf_text.proofs.columns.columns.push_row.Given as goal

abbrev pub invariant-loop-column : goal.invariant-loop-column
invariant-loop-column l = l.line.items ++ padded_from l.rows l.column (drop l.column l.row) ≡ padded_from l.rows 0 l.row
