use Rattle.std.proofs.Common.{codes, [], ◌∷◌}
use Rattle.pf_diff.specs.Summary.{lag_record, maybe_record}
use Rattle.pf_diff.specs.Written.{with_records}
use Rattle.pf_diff.proofs.Pages.{relabelled, three_records}
use Rattle.pf_diff.proofs.summary_text.push_worst.Goals as goal

pub returns : goal.returns
returns c =
    relabelled c.push_maybe-2.result _ _ _
    (three_records c.push_maybe-2.result c.args.table.now _ _ c.push_maybe-2.new.table
    (lag_record (codes "worst_lag") c.lag_of.result c.lag_of-2.result)
    (maybe_record (codes "worst_lag_period") c.period_of.result c.period_of-2.result)
    (maybe_record (codes "worst_lag_task") c.number_of.result c.number_of-2.result)
    c.in_ok-push_lag.ensures c.in_ok-push_maybe.ensures c.push_maybe-2.ensures)
    (λ i. with_records c.args.table.now
    (lag_record (codes "worst_lag") (c.lag_of.ensures i) (c.lag_of-2.ensures i)
    ∷ maybe_record (codes "worst_lag_period") (c.period_of.ensures i) (c.period_of-2.ensures i)
    ∷ maybe_record (codes "worst_lag_task") (c.number_of.ensures i) (c.number_of-2.ensures i)
    ∷ []))
