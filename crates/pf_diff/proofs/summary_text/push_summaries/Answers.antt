use Rattle.pf_diff.specs.Summary.{settings_records, count_records, first_miss_records, worst_records, move_records}
use Rattle.pf_diff.proofs.Pages.{five_lots}
use Rattle.pf_diff.proofs.summary_text.push_summaries.Goals as goal

pub returns : goal.returns
returns c =
    let b = c.args.before.now in
    let a = c.args.after.now in
    five_lots c.push_moves.result c.args.table.now _ _ _ _ c.push_moves.new.table (settings_records b a) (count_records b a)
    (first_miss_records b.first_miss a.first_miss) (worst_records b.worst a.worst) (move_records b a c.args.cells)
    c.in_ok-push_settings.ensures c.in_ok-push_counts.ensures c.in_ok-push_first_miss.ensures c.in_ok-push_worst.ensures c.push_moves.ensures
