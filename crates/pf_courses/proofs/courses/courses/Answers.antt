use Rattle.std.proofs.Common.{◌∙◌, ap, arith, filter_map}
use Rattle.pf_run.specs.Inside.{join_of}
use Rattle.pf_tally.specs.Lags.{by_task}
use Rattle.pf_tally.proofs.Figured.{figures_can}
use Rattle.pf_tally.proofs.Ledgers.{rows_known}
use Rattle.pf_courses.proofs.Tracks.{courses_step, courses_all}
use Rattle.pf_courses.proofs.courses.courses.Goals as goal

pub processors_by_task-requires : goal.processors_by_task-requires
processors_by_task-requires c =
    let settings = c.in_ok-ledger.ensures.settings in
    rows_known c.args.scenario.now _ c.args.rows.now c.args.denials.now c.requires (c.processors.ensures.value ∙ ap (λ settings. settings.processors) settings)

pub loop-task-init : goal.loop-task-init
loop-task-init c = c.in_ok-courses.ensures.items

pub of-requires : goal.of-requires
of-requires c =
    let tasks = c.deref-task-items.ensures.value ∙ c.in_ok-tasks.ensures ∙ ap (λ xs. by_task (filter_map (join_of c.in_ok-ledger.ledger.settings.base) xs)) c.deref.ensures.value in
    figures_can _ _ c.in_ok-ledger.ledger c.in_ok-ledger.ensures _ tasks c.loop-task.task-index c.task-item.result _ _ (omega arith) c.task-item.is
    c.quanta-ran.ensures c.diary-diary.ensures

pub loop-task-preserved : goal.loop-task-preserved
loop-task-preserved c =
    let tasks = c.deref-task-items.ensures.value ∙ c.in_ok-tasks.ensures ∙ ap (λ xs. by_task (filter_map (join_of c.in_ok-ledger.ledger.settings.base) xs)) c.deref.ensures.value in
    courses_step _ _ c.in_ok-ledger.ledger c.in_ok-ledger.ensures _ tasks c.args.rows.now c.processors_of-on.result.now c.loop-task.task-index c.task-item.result _ _ _ _ _ (omega arith) c.task-item.is
    c.quanta-ran.ensures c.diary-diary.ensures (c.processors_of-on.ensures ∙ c.in_ok-processors.ensures _) c.in_ok-course.ensures c.in_ok-push.ensures.items c.loop-task.invariant

pub returns : goal.returns
returns c =
    let tasks = c.deref-task-items.ensures.value ∙ c.in_ok-tasks.ensures ∙ ap (λ xs. by_task (filter_map (join_of c.in_ok-ledger.ledger.settings.base) xs)) c.deref.ensures.value in
    courses_all _ _ c.in_ok-ledger.ledger c.in_ok-ledger.ensures _ tasks c.args.rows.now c.loop-task.courses.items c.loop-task.task-index (omega arith) c.loop-task.invariant
