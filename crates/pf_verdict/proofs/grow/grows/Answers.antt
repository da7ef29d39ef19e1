use Rattle.std.proofs.Common.{◌≡◌, ◌∙◌, ap, sym, subst, filter_map, get_or, arith}
use Rattle.pf_run.specs.Inside.{Joined, join_of}
use Rattle.pf_run.specs.Computed.{run_of}
use Rattle.pf_tally.specs.Lags.{by_task}
use Rattle.pf_verdict.proofs.Grown.{grow_added, grows_all}
use Rattle.pf_verdict.proofs.Shown.{ledger_of, of_run}
use Rattle.pf_verdict.proofs.grow.grows.Goals as goal

pub make_ledger-requires : goal.make_ledger-requires
make_ledger-requires c =
    of_run c.args.snapshot.now c.scenario.result.now c.rows.result.now c.denials.result.now c.now.ensures.of_run c.scenario.ensures c.rows.ensures c.denials.ensures

pub loop-task-preserved : goal.loop-task-preserved
loop-task-preserved c =
    let seen = c.args.snapshot.now in
    let s = seen.state.plan in
    let n = seen.state.now in
    let ledger = c.in_ok-ledger.ledger in
    let known = ledger_of seen c.scenario.result.now c.rows.result.now ledger c.now.ensures.of_run c.scenario.ensures c.rows.ensures c.in_ok-ledger.ensures in
    let inside = c.task.inside in
    let j : Joined = record { task = inside.task; slot = inside.slot; weight = inside.weight; early = inside.early } in
    let items = c.deref-task-items.result.now in
    let k = c.loop-task.task-index in
    let tasks = c.deref-task-items.ensures.value ∙ c.in_ok-admitted.ensures
    ∙ ap (λ xs. by_task (filter_map (join_of ledger.settings.base) xs)) c.deref.ensures.value in
    let at = subst (λ (x : Joined). x ≡ get_or items k x) (sym c.task.view_is) c.task-item.is in
    let base = c.get-base.ensures.value ∙ c.base.ensures.value ∙ ap (λ z. z.base) known.settings in
    let cap = c.cap-cap.ensures.value ∙ ap (λ z. z.cap) known.settings in
    grow_added s n ledger known items tasks k j (omega arith) at c.diary.result.now c.last_slot-last.result c.least_left-left.result
    c.period-period.result c.get-base.result c.cost_of.result c.loop-task.grows.items _ c.diary.ensures c.last_slot-last.ensures
    (c.least_left-left.ensures.least s (run_of s n) n (sym base) (sym cap) c.requires.cover c.requires.even)
    c.period-period.ensures.value base c.cost_of.ensures c.in_ok-push.ensures.items c.loop-task.invariant

pub returns : goal.returns
returns c =
    let seen = c.args.snapshot.now in
    let ledger = c.in_ok-ledger.ledger in
    let known = ledger_of seen c.scenario.result.now c.rows.result.now ledger c.now.ensures.of_run c.scenario.ensures c.rows.ensures c.in_ok-ledger.ensures in
    let tasks = c.deref-task-items.ensures.value ∙ c.in_ok-admitted.ensures
    ∙ ap (λ xs. by_task (filter_map (join_of ledger.settings.base) xs)) c.deref.ensures.value in
    grows_all seen.state.plan seen.state.now ledger known c.deref-task-items.result.now tasks c.loop-task.task-index c.loop-task.grows.items (omega arith)
    c.loop-task.invariant
