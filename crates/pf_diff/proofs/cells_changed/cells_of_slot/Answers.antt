use Rattle.std.proofs.Common.{arith}
use Rattle.pf_place.specs.Lent.{lent_row}
use Rattle.pf_diff.proofs.Counted.{row_all}
use Rattle.pf_diff.proofs.cells_changed.cells_of_slot.Goals as goal

pub returns-clause-value : goal.returns-clause-value
returns-clause-value c =
    row_all c.loop-processor.processor c.loop-processor.cells (lent_row c.args.before) (lent_row c.args.after)
    (omega (arith, c.requires)) c.loop-processor.invariant.whole
