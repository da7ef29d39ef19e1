use Rattle.std.proofs.Common.{◌∙◌, ◌++◌, [], cond, sym, ap}
use Rattle.std.specs.Prelude.{◌==◌}
use Rattle.pf_collections.specs.Table.Lists.{noted_of}
use Rattle.pf_trace.proofs.Listing.{nothing_told, one_told, then_ok}
use Rattle.pf_trace.proofs.trace.note_task.Goals as goal

pub returns-then-is_empty : goal.returns-then-is_empty
returns-then-is_empty c =
    λ t. nothing_told c.args.titles.now c.args.run.now c.args.denials.now c.args.events.now c.args.slot_count c.args.task t (noted_of c.args.tasks.now t) (sym c.is_empty.ensures ∙ c.if-is_empty.true)

pub returns : goal.returns
returns c =
    let one = one_told c.args.titles.now c.args.run.now c.args.denials.now c.args.events.now c.args.slot_count c.args.task _ _ _ _ (sym c.is_empty.ensures ∙ c.if-is_empty.false)
    c.new-trace.ensures c.in_ok-title.ensures c.in_ok-course.ensures c.in_ok-moments.ensures in
    then_ok c.note.result _ _ (λ h t. h t ∙ ap (λ xs. noted_of c.args.tasks.now t ++ cond (c.args.task == t) xs []) one) c.note.ensures
