use Rattle.std.proofs.Common.{◌≡◌, ◌∙◌, ap, ap₂, arith, filter_map}
use Rattle.pf_scenario.specs.System.{System}
use Rattle.pf_run.specs.Inside.{join_of}
use Rattle.pf_collections.specs.Table.Lists.{noted_of}
use Rattle.pf_tally.specs.Lags.{by_task}
use Rattle.pf_tally.specs.Quanta.{slots_in}
use Rattle.pf_tally.proofs.Figured.{can_figure, figures_step, figures_all}
use Rattle.pf_tally.proofs.Ledgers.{rows_known}
use Rattle.pf_tally.proofs.task_figures.task_figures.Goals as goal

pub processors_by_task-requires : goal.processors_by_task-requires
processors_by_task-requires c =
    let settings = c.settings-settings.ensures ∙ c.in_ok-run.ensures.journal.settings in
    rows_known c.args.scenario.now _ c.args.rows.now c.args.denials.now c.requires (c.processors.ensures.value ∙ ap (λ settings. settings.processors) settings)

pub quanta_by_task-requires : goal.quanta_by_task-requires
quanta_by_task-requires c =
    let settings = c.settings-settings.ensures ∙ c.in_ok-run.ensures.journal.settings in
    rows_known c.args.scenario.now _ c.args.rows.now c.args.denials.now c.requires (c.processors-2.ensures.value ∙ ap (λ settings. settings.processors) settings)

pub loop-task-init : goal.loop-task-init
loop-task-init c = c.in_ok-figures.ensures.items

pub figures_of_task-requires : goal.figures_of_task-requires
figures_of_task-requires c =
    let run = c.in_ok-run.run' in
    let tasks = c.deref-task-items.ensures.value ∙ c.in_ok-tasks.ensures ∙ ap₂ (λ (system : System) xs. by_task (filter_map (join_of system.base) xs)) c.settings-settings.ensures c.events.ensures in
    let each : noted_of c.in_ok-quanta.quanta c.task-item.result.task ≡ slots_in c.args.rows.now c.task-item.result.task = c.in_ok-quanta.ensures.each c.task-item.result.task in
    let of_ran = c.quanta_of-ran.ensures ∙ each in
    can_figure c.args.scenario.now c.args.rows.now c.args.denials.now run c.in_ok-run.ensures _ tasks c.loop-task.task-index c.task-item.result _ (omega arith) c.task-item.is
    of_ran

pub loop-task-preserved : goal.loop-task-preserved
loop-task-preserved c =
    let run = c.in_ok-run.run' in
    let tasks = c.deref-task-items.ensures.value ∙ c.in_ok-tasks.ensures ∙ ap₂ (λ (system : System) xs. by_task (filter_map (join_of system.base) xs)) c.settings-settings.ensures c.events.ensures in
    let each : noted_of c.in_ok-quanta.quanta c.task-item.result.task ≡ slots_in c.args.rows.now c.task-item.result.task = c.in_ok-quanta.ensures.each c.task-item.result.task in
    let of_ran = c.quanta_of-ran.ensures ∙ each in
    figures_step c.args.scenario.now c.args.rows.now c.args.denials.now run c.in_ok-run.ensures _ tasks c.processors_of-on.result.now c.loop-task.task-index c.task-item.result _ _ _ _ (omega arith) c.task-item.is
    of_ran (c.processors_of-on.ensures ∙ c.in_ok-processors.ensures _) c.in_ok-told.ensures c.in_ok-push.ensures.items c.loop-task.invariant

pub returns : goal.returns
returns c =
    let run = c.in_ok-run.run' in
    let tasks = c.deref-task-items.ensures.value ∙ c.in_ok-tasks.ensures ∙ ap₂ (λ (system : System) xs. by_task (filter_map (join_of system.base) xs)) c.settings-settings.ensures c.events.ensures in
    figures_all c.args.scenario.now c.args.rows.now c.args.denials.now run c.in_ok-run.ensures _ tasks c.loop-task.figures.items c.loop-task.task-index (omega arith) c.loop-task.invariant
