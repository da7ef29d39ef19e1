use Rattle.std.proofs.Common.{◌≡◌, Some, subst}
use Rattle.std.specs.List.{slice_get}
use Rattle.pf_place.specs.Lent.{lent_row}
use Rattle.pf_report.proofs.Arrays.{row_shown, row_shown_plain}
use Rattle.pf_report.proofs.json.ScheduleRowsElements.element.Goals as goal

pub returns-clause-first : goal.returns-clause-first
returns-clause-first c =
    row_shown c.row_value.result c.args.self.now.rows c.args.at (lent_row c.row_at.result) c.requires.within
    (subst (λ s. Some (lent_row c.row_at.result) ≡ slice_get s.rows c.args.at) c.snapshot-snapshot.ensures c.row_at.ensures.row) c.row_value.ensures

pub returns-clause-plain : goal.returns-clause-plain
returns-clause-plain c = row_shown_plain c.row_value.result (lent_row c.row_at.result) c.row_value.ensures
