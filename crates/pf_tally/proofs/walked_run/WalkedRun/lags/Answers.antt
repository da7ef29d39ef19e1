use Rattle.std.proofs.Common.{◌∙◌, ap, arith}
use Rattle.pf_run.specs.Inside.{inside}
use Rattle.pf_tally.specs.Lags.{by_task}
use Rattle.pf_tally.proofs.Journals.{lags_known, inside_at, journal_can, walked_received, delays_small, delays_apart, walked_lag, lag_step}
use Rattle.pf_tally.proofs.walked_run.WalkedRun.lags.Goals as goal

pub loop-task-init : goal.loop-task-init
loop-task-init c = λ s rows denials known. c.in_ok-lags.ensures.items

pub clock_at-clock-requires-clause-joined : goal.clock_at-clock-requires-clause-joined
clock_at-clock-requires-clause-joined c =
    let run = c.args.self.now in
    let tasks = c.deref-task-items.ensures.value ∙ c.in_ok-tasks.ensures ∙ ap (λ xs. by_task (inside run.journal.settings.base xs)) c.deref.ensures.value in
    let at = inside_at run.journal _ c.loop-task.task-index c.task-item.result tasks (omega arith) c.task-item.is in
    let can = journal_can c.requires.scenario c.requires.rows c.requires.denials run c.requires.is c.task-item.result at in
    can.joined

pub clock_at-clock-requires-clause-small : goal.clock_at-clock-requires-clause-small
clock_at-clock-requires-clause-small c =
    let run = c.args.self.now in
    let tasks = c.deref-task-items.ensures.value ∙ c.in_ok-tasks.ensures ∙ ap (λ xs. by_task (inside run.journal.settings.base xs)) c.deref.ensures.value in
    let at = inside_at run.journal _ c.loop-task.task-index c.task-item.result tasks (omega arith) c.task-item.is in
    delays_small c.requires.scenario c.requires.rows c.requires.denials run c.requires.is c.task-item.result at c.delays.result.now c.delays.ensures

pub clock_at-clock-requires-clause-apart : goal.clock_at-clock-requires-clause-apart
clock_at-clock-requires-clause-apart c =
    let run = c.args.self.now in
    let tasks = c.deref-task-items.ensures.value ∙ c.in_ok-tasks.ensures ∙ ap (λ xs. by_task (inside run.journal.settings.base xs)) c.deref.ensures.value in
    let at = inside_at run.journal _ c.loop-task.task-index c.task-item.result tasks (omega arith) c.task-item.is in
    delays_apart c.requires.scenario c.requires.rows c.requires.denials run c.requires.is c.task-item.result at c.delays.result.now c.delays.ensures

pub received-requires : goal.received-requires
received-requires c =
    let run = c.args.self.now in
    let tasks = c.deref-task-items.ensures.value ∙ c.in_ok-tasks.ensures ∙ ap (λ xs. by_task (inside run.journal.settings.base xs)) c.deref.ensures.value in
    let at = inside_at run.journal _ c.loop-task.task-index c.task-item.result tasks (omega arith) c.task-item.is in
    let can = journal_can c.requires.scenario c.requires.rows c.requires.denials run c.requires.is c.task-item.result at in
    can.number

pub lag_at-requires-clause-number : goal.lag_at-requires-clause-number
lag_at-requires-clause-number c =
    let run = c.args.self.now in
    let tasks = c.deref-task-items.ensures.value ∙ c.in_ok-tasks.ensures ∙ ap (λ xs. by_task (inside run.journal.settings.base xs)) c.deref.ensures.value in
    let at = inside_at run.journal _ c.loop-task.task-index c.task-item.result tasks (omega arith) c.task-item.is in
    let can = journal_can c.requires.scenario c.requires.rows c.requires.denials run c.requires.is c.task-item.result at in
    can.number

pub lag_at-requires-clause-received : goal.lag_at-requires-clause-received
lag_at-requires-clause-received c =
    let run = c.args.self.now in
    let tasks = c.deref-task-items.ensures.value ∙ c.in_ok-tasks.ensures ∙ ap (λ xs. by_task (inside run.journal.settings.base xs)) c.deref.ensures.value in
    let at = inside_at run.journal _ c.loop-task.task-index c.task-item.result tasks (omega arith) c.task-item.is in
    let can = journal_can c.requires.scenario c.requires.rows c.requires.denials run c.requires.is c.task-item.result at in
    let long = walked_received c.requires.scenario c.requires.rows c.requires.denials run c.requires.is c.task-item.result at c.received.result c.received.ensures in
    omega (arith, can.ran_within, can.within, long)

pub loop-task-preserved : goal.loop-task-preserved
loop-task-preserved c = λ s rows denials known.
    let run = c.args.self.now in
    let tasks = c.deref-task-items.ensures.value ∙ c.in_ok-tasks.ensures ∙ ap (λ xs. by_task (inside run.journal.settings.base xs)) c.deref.ensures.value in
    let at = inside_at run.journal _ c.loop-task.task-index c.task-item.result tasks (omega arith) c.task-item.is in
    lag_step _ _ c.loop-task.task-index c.task-item.result c.lag_at.result _ _ (omega arith) c.task-item.is
    (walked_lag s rows denials run known c.task-item.result at
    c.delays.result.now c.clock_at-clock.result c.received.result c.lag_at.result c.delays.ensures c.clock_at-clock.ensures c.received.ensures c.lag_at.ensures)
    c.in_ok-push.ensures.items (c.loop-task.invariant s rows denials known)

pub returns : goal.returns
returns c = λ s rows denials known.
    let run = c.args.self.now in
    let tasks = c.deref-task-items.ensures.value ∙ c.in_ok-tasks.ensures ∙ ap (λ xs. by_task (inside run.journal.settings.base xs)) c.deref.ensures.value in
    lags_known s _ run.journal c.loop-task.lags.items _ c.loop-task.task-index known.journal tasks (c.loop-task.invariant s rows denials known) (omega arith)
