use Rattle.std.proofs.Common.{arith}
use Rattle.pf_place.specs.Lent.{lent_row}
use Rattle.pf_diff.proofs.SideBySide.{row_page}
use Rattle.pf_diff.proofs.slots.push_slot.Goals as goal

pub returns : goal.returns
returns c =
    let loop = c.loop-processor in
    row_page loop.table c.args.table.now c.args.t loop.processor (lent_row c.args.before) (lent_row c.args.after)
    (omega (arith, c.requires.both)) loop.invariant.whole loop.invariant.at_record
