use Rattle.std.proofs.Common.{◌≡◌, Some, subst}
use Rattle.std.specs.List.{slice_get}
use Rattle.pf_place.specs.Lent.{lent_row}
use Rattle.pf_report.proofs.Recorded.{row_first}
use Rattle.pf_text.proofs.Recorded.{first_added}
use Rattle.pf_report.proofs.schedule.ScheduleRowsRecords.push_record.Goals as goal

pub returns : goal.returns
returns c =
    let is = subst (λ s. Some (lent_row c.row_at.result) ≡ slice_get s.rows c.args.at) c.snapshot-snapshot.ensures c.row_at.ensures.row in
    first_added c.push_row.result _ _ _ c.args.table.now c.push_row.new.table
    (row_first c.args.self.now.rows c.args.at (lent_row c.row_at.result) c.requires.within is) c.push_row.ensures
