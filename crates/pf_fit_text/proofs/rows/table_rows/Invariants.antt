use Rattle.std.proofs.Common.{◌≡◌, ◌++◌, drop}
use Rattle.pf_fit_text.specs.Rows.{rows_from, table_rows}
use Rattle.pf_fit_text.proofs.rows.table_rows.Given as goal

-- after the rows so far those of the tasks that are left
abbrev pub invariant-loop-k : goal.invariant-loop-k
invariant-loop-k l =
    l.rows.items ++ rows_from l.named l.titles.names l.titles.slot l.findings.grows l.k (drop l.k l.findings.figures)
    ≡ table_rows l.titles.names l.titles.slot l.findings.figures l.findings.grows
