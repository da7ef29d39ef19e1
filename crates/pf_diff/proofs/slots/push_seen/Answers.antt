use Rattle.pf_place.specs.Lent.{lent_row}
use Rattle.pf_diff.proofs.SideBySide.{slot_pushed}
use Rattle.pf_diff.proofs.slots.push_seen.Goals as goal

pub returns : goal.returns
returns c =
    slot_pushed c.push_slot.result c.args.t c.args.before.now.rows c.args.after.now.rows (lent_row c.row_at.result) (lent_row c.row_at-2.result)
    c.args.table.now c.push_slot.new.table c.requires.first c.requires.second c.row_at.ensures.row c.row_at-2.ensures.row c.push_slot.ensures
