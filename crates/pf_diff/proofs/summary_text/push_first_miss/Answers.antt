use Rattle.std.proofs.Common.{codes, [], ◌∷◌}
use Rattle.pf_diff.specs.Summary.{maybe_record}
use Rattle.pf_diff.specs.Written.{with_records}
use Rattle.pf_diff.proofs.Pages.{relabelled, three_records}
use Rattle.pf_diff.proofs.summary_text.push_first_miss.Goals as goal

pub returns : goal.returns
returns c =
    relabelled c.push_maybe-3.result _ _ _
    (three_records c.push_maybe-3.result c.args.table.now _ _ c.push_maybe-3.new.table
    (maybe_record (codes "first_miss_task") c.task_of.result c.task_of-2.result)
    (maybe_record (codes "first_miss_sub") c.sub_of.result c.sub_of-2.result)
    (maybe_record (codes "first_miss_deadline") c.deadline_of.result c.deadline_of-2.result)
    c.in_ok-push_maybe.ensures c.in_ok-push_maybe-2.ensures c.push_maybe-3.ensures)
    (λ i. with_records c.args.table.now
    (maybe_record (codes "first_miss_task") (c.task_of.ensures i) (c.task_of-2.ensures i)
    ∷ maybe_record (codes "first_miss_sub") (c.sub_of.ensures i) (c.sub_of-2.ensures i)
    ∷ maybe_record (codes "first_miss_deadline") (c.deadline_of.ensures i) (c.deadline_of-2.ensures i)
    ∷ []))
