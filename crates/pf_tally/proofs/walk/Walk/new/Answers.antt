use Rattle.std.proofs.Common.{◌≡◌, ◌∙◌, arith, sym, ap, ap₂}
use Rattle.std.proofs.Common.{Some}
use Rattle.pf_collections.specs.Table.Grown.{with_value}
use Rattle.pf_tally.proofs.Walks.{task_entered, new_progress, room_made}
use Rattle.pf_tally.proofs.walk.Walk.new.Goals as goal

pub loop-task-preserved : goal.loop-task-preserved
loop-task-preserved c =
    let number : c.number_of-number.result ≡ c.task-item.result.task = c.number_of-number.ensures ∙ ap (λ j. j.task) c.task.view_is in
    let room = room_made _ c.loop-task.progress c.reserve.new.self c.in_ok-reserve.ensures.ok in
    task_entered c.args.tasks.now c.loop-task.task-index c.task-item.result c.loop-task.progress c.reserve.new.self c.set.new.self c.requires (omega arith) (sym c.task-item.is)
    (ap (λ t. t.1) c.in_ok-reserve.ensures.ok) c.in_ok-reserve.ensures.same (omega arith)
    (c.set.ensures ∙ ap₂ (λ n j. with_value c.reserve.new.self n (Some (new_progress j))) number c.task.view_is) c.loop-task.invariant
