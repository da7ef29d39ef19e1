use Rattle.std.proofs.Common.{◌≡◌, ◌+◌, ◌++◌, ◌∷◌, drop}
use Rattle.pf_convert.specs.Conversion.Report.{headings, report_rows}
use Rattle.pf_convert.proofs.conversion.report.push_table.Given as goal

abbrev pub invariant-loop-place : goal.invariant-loop-place
invariant-loop-place l =
    l.rows.items ++ report_rows l.dues l.unit l.quantum (l.place + 1) (drop l.place l.tasks) (drop l.place l.slots)
    ≡ headings l.dues ∷ report_rows l.dues l.unit l.quantum 1 l.tasks l.slots
