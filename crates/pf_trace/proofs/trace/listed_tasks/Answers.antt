use Rattle.std.proofs.Common.{◌∙◌, ap, ap₂, arith}
use Rattle.pf_scenario.specs.Scenario.{past}
use Rattle.pf_run.proofs.Within.{horizon_within}
use Rattle.pf_tally.specs.Own.{events_of_task}
use Rattle.pf_trace.proofs.Listing.{all_can, all_told, none_noted, one_passed, traces_are}
use Rattle.pf_trace.proofs.trace.listed_tasks.Goals as goal

pub note_task-requires-clause-can : goal.note_task-requires-clause-can
note_task-requires-clause-can c = all_can c.args.snapshot.now c.in_ok-run.run' c.in_ok-run.ensures

pub note_task-requires-clause-within : goal.note_task-requires-clause-within
note_task-requires-clause-within c =
    let of_run = c.now-slots.ensures.of_run in
    omega (arith, c.now-slots.ensures.value, of_run.within, horizon_within c.args.snapshot.now.state.plan.settings of_run.scenario.settings)

pub loop-task-init : goal.loop-task-init
loop-task-init c = none_noted c.args.titles.now c.args.snapshot.now _ c.new-tasks.ensures

pub loop-task-preserved : goal.loop-task-preserved
loop-task-preserved c =
    let seen = c.args.snapshot.now in
    let k = c.loop-task.task in
    let held = c.deref.ensures.value ∙ c.in_ok-held.ensures.value ∙ ap₂ past c.scenario.ensures c.now-slots.ensures.value in
    let events = c.get-events.ensures ∙ c.in_ok-own.ensures.each k ∙ ap (events_of_task k) held in
    one_passed c.args.titles.now seen k (omega arith) c.loop-task.tasks _ c.loop-task.invariant _
    (traces_are seen c.in_ok-run.run' c.in_ok-run.ensures c.args.titles.now _ _ _ k c.denials-denials.ensures events c.now-slots.ensures.value)
    c.in_ok-note_task.ensures

pub returns : goal.returns
returns c = all_told c.args.titles.now c.args.snapshot.now c.loop-task.task _ (omega arith) c.loop-task.invariant
