use Rattle.std.proofs.Common.{◌∙◌, sym, arith}
use Rattle.std.proofs.lemmas.List.{at_drop_more}
use Rattle.pf_diff.specs.Changes.{noted}
use Rattle.pf_diff.proofs.changes.note.Goals as goal

pub loop-cell-preserved : goal.loop-cell-preserved
loop-cell-preserved c =
    rw c.in_ok-insert.ensures.entries
    (sym (at_drop_more (noted c.loop-cell.table.entries) c.args.cells.now c.loop-cell.cell-index _ (omega arith)) ∙ c.loop-cell.invariant)
