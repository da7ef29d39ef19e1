use Rattle.std.proofs.Common.{◌≡◌, ◌∙◌, ◌+◌, ◌++◌, ◌∷◌, drop, length, min, ap, arith}
use Rattle.std.proofs.lemmas.Result.{on_ok_weaker}
use Rattle.pf_text.specs.Columns.Columns.{columns_text}
use Rattle.pf_convert.specs.Conversion.Report.{headings, report_rows}
use Rattle.pf_convert.proofs.ConversionLemmas.Rows.{row_made, rows_made}
use Rattle.pf_convert.proofs.conversion.report.push_table.Goals as goal

pub loop-place-preserved : goal.loop-place-preserved
loop-place-preserved c =
    let tasks = c.args.tasks.now in
    let slots = c.args.slots.now in
    let least : c.min-place-end.result ≡ min (length tasks) (length slots) = c.min-place-end.ensures in
    ap (λ rows. rows ++ report_rows c.has_deadline-dues.result c.args.unit c.args.quantum (c.loop-place.place + 1 + 1) (drop (c.loop-place.place + 1) tasks) (drop (c.loop-place.place + 1) slots))
    c.in_ok-push-2.ensures.items
    ∙ row_made c.has_deadline-dues.result c.args.unit c.args.quantum tasks slots c.loop-place.place c.index-tasks-place.result _ c.loop-place.rows.items
    (headings c.has_deadline-dues.result ∷ report_rows c.has_deadline-dues.result c.args.unit c.args.quantum 1 tasks slots) c.in_ok-row.row
    (omega (arith, c.loop-place-test.true, least)) (omega (arith, c.loop-place-test.true, least)) c.index-tasks-place.is c.in_ok-row.ensures c.loop-place.invariant

pub returns : goal.returns
returns c =
    let tasks = c.args.tasks.now in
    let slots = c.args.slots.now in
    let least : c.min-place-end.result ≡ min (length tasks) (length slots) = c.min-place-end.ensures in
    let made : c.loop-place.rows.items ≡ headings c.has_deadline-dues.result ∷ report_rows c.has_deadline-dues.result c.args.unit c.args.quantum 1 tasks slots =
    rows_made c.has_deadline-dues.result c.args.unit c.args.quantum tasks slots c.loop-place.place c.loop-place.rows.items (headings c.has_deadline-dues.result ∷ report_rows c.has_deadline-dues.result c.args.unit c.args.quantum 1 tasks slots)
    (omega (arith, c.loop-place-test.false, least)) c.loop-place.invariant in
    on_ok_weaker c.push_columns.result
    (λ e. e ∙ ap (λ rows. c.args.text.now.items ++ columns_text rows) (c.deref.ensures.value ∙ made)
    ∙ ap (λ dues. c.args.text.now.items ++ columns_text (headings dues ∷ report_rows dues c.args.unit c.args.quantum 1 tasks slots)) c.has_deadline-dues.ensures)
    c.push_columns.ensures
