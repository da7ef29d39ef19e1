use Rattle.std.proofs.Common.{codes}
use Rattle.pf_diff.specs.Summary.{cells_record, count_record}
use Rattle.pf_diff.proofs.Pages.{three_records}
use Rattle.pf_diff.proofs.summary_text.push_moves.Goals as goal

pub returns : goal.returns
returns c =
    let b = c.args.before.now in
    let a = c.args.after.now in
    three_records c.push_cells.result c.args.table.now _ _ c.push_cells.new.table
    (count_record (codes "preemptions") b.preemptions a.preemptions) (count_record (codes "migrations") b.migrations a.migrations)
    (cells_record c.args.cells) c.in_ok-push_sum.ensures c.in_ok-push_sum-2.ensures c.push_cells.ensures
