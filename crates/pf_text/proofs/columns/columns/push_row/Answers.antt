use Rattle.std.proofs.Common.{◌∙◌, ◌++◌, ap, arith}
use Rattle.pf_text.specs.Columns.Columns.{width_of, padded, without_end_blanks}
use Rattle.pf_text.proofs.ColumnsLemmas.Widths.{cell_padded, all_padded, line_of}
use Rattle.pf_text.proofs.columns.columns.push_row.Goals as goal

pub loop-column-preserved : goal.loop-column-preserved
loop-column-preserved c =
    cell_padded c.args.rows.now c.args.row.now c.loop-column.column c.loop-column.line.items c.push_padded.new.line.items
    (omega (arith, c.loop-column-test.true, c.len-column-end.ensures))
    (c.in_ok-push_padded.ensures ∙ ap (λ w. c.loop-column.line.items ++ padded w c.cell.result.now) c.width_at-width.ensures
    ∙ ap (λ s. c.loop-column.line.items ++ padded (width_of c.args.rows.now c.loop-column.column) s) c.cell.ensures)
    c.loop-column.invariant

pub returns : goal.returns
returns c =
    line_of c.args.rows.now c.args.row.now c.args.text.now.items c.loop-column.line.items c.without_end_blanks.result.now c.extend_from_slice.new.self.items
    c.push.new.self.items
    (all_padded c.args.rows.now c.args.row.now c.loop-column.column c.loop-column.line.items
    (omega (arith, c.loop-column-test.false, c.len-column-end.ensures)) c.loop-column.invariant)
    (c.without_end_blanks.ensures ∙ ap without_end_blanks c.deref.ensures.value) c.in_ok-extend_from_slice.ensures.items c.in_ok-push.ensures.items
