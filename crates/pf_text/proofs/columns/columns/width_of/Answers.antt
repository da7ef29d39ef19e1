use Rattle.std.proofs.Common.{◌∙◌, ◌+◌, length, drop, ap}
use Rattle.std.specs.Prelude.{max}
use Rattle.pf_lemmas.proofs.Orders.{greater_of}
use Rattle.pf_text.specs.Columns.Columns.{width_of}
use Rattle.pf_text.proofs.ColumnsLemmas.Widths.{row_looked_at, all_looked_at}
use Rattle.pf_text.proofs.columns.columns.width_of.Goals as goal

pub loop-row-preserved : goal.loop-row-preserved
loop-row-preserved c =
    let rest = width_of (drop (c.loop-row.row-index + 1) c.args.rows.now) c.args.column in
    ap (λ v. max v rest) (c.max-width.ensures ∙ greater_of c.loop-row.width (length c.cell.result.now) ∙ ap (λ s. max c.loop-row.width (length s)) c.cell.ensures)
    ∙ row_looked_at c.args.rows.now c.loop-row.row-index c.args.column c.loop-row.width c.row-item.result c.loop-row-test.true c.row-item.is c.loop-row.invariant

pub returns : goal.returns
returns c = all_looked_at c.args.rows.now c.loop-row.row-index c.args.column c.loop-row.width c.loop-row-test.false c.loop-row.invariant
