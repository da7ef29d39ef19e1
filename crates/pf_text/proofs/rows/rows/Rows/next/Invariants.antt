use Rattle.std.proofs.Common.{◌≡◌, length}
use Rattle.pf_text.specs.Rows.Left.{lines_ahead}
use Rattle.pf_text.specs.Rows.Rows.{rows_of}
use Rattle.pf_text.proofs.rows.rows.Rows.next.Given as goal

-- no row was found
abbrev pub invariant-records : goal.invariant-records
invariant-records l = record { left : rows_of (lines_ahead l.self-inside.lines) l.self-inside.records ≡ l.fn.self }

abbrev pub decreases-records : goal.decreases-records
decreases-records l = length l.self-inside.records
