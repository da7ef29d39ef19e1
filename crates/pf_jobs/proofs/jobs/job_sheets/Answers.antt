use Rattle.std.proofs.Common.{◌≡◌, ◌∙◌, ap, sym, subst, filter_map, get_or, arith}
use Rattle.pf_run.specs.Inside.{Joined, join_of}
use Rattle.pf_tally.specs.Lags.{by_task}
use Rattle.pf_courses.proofs.OfRun.{ledger_of, of_run}
use Rattle.pf_jobs.proofs.Told.{can_tally, sheet_added, sheet_left, sheets_all, slots_low}
use Rattle.pf_jobs.proofs.jobs.job_sheets.Goals as goal
use Rattle.pf_jobs.proofs.jobs.job_sheets.Goals.{then-has+in_ok-run+in_ok-push, else-has}

pub make_ledger-requires : goal.make_ledger-requires
make_ledger-requires c =
    of_run c.now.ensures.of_run c.scenario.ensures c.rows.ensures c.denials.ensures

pub of-requires-clause-can : goal.of-requires-clause-can
of-requires-clause-can c =
    let inside = c.task.inside in
    let j : Joined = record { task = inside.task; slot = inside.slot; weight = inside.weight; early = inside.early } in
    let items = c.deref-task-items.result.now in
    let tasks = c.deref-task-items.ensures.value ∙ c.in_ok-admitted.ensures
    ∙ ap (λ xs. by_task (filter_map (join_of c.in_ok-ledger.ledger.settings.base) xs)) c.deref.ensures.value in
    let at = subst (λ (x : Joined). x ≡ get_or items c.loop-task.task-index x) (sym c.task.view_is) c.task-item.is in
    can_tally _ _ c.in_ok-ledger.ledger c.in_ok-ledger.ensures _ tasks c.args.tasks.now c.args.titles.now c.loop-task.task-index j _ _
    (omega arith) at c.quanta-ran.ensures c.diary-diary.ensures

pub of-requires-clause-slots : goal.of-requires-clause-slots
of-requires-clause-slots c =
    let inside = c.task.inside in
    let j : Joined = record { task = inside.task; slot = inside.slot; weight = inside.weight; early = inside.early } in
    let items = c.deref-task-items.result.now in
    let tasks = c.deref-task-items.ensures.value ∙ c.in_ok-admitted.ensures
    ∙ ap (λ xs. by_task (filter_map (join_of c.in_ok-ledger.ledger.settings.base) xs)) c.deref.ensures.value in
    let at = subst (λ (x : Joined). x ≡ get_or items c.loop-task.task-index x) (sym c.task.view_is) c.task-item.is in
    slots_low _ _ c.in_ok-ledger.ledger c.in_ok-ledger.ensures _ tasks c.args.tasks.now c.args.titles.now c.loop-task.task-index j _ _
    (omega arith) at c.quanta-ran.ensures c.diary-diary.ensures

pub loop-task-preserved : goal.loop-task-preserved
loop-task-preserved c =
    let seen = c.args.snapshot.now in
    let ledger = c.in_ok-ledger.ledger in
    let known = ledger_of c.now.ensures.of_run c.scenario.ensures c.rows.ensures c.denials.ensures ledger c.in_ok-ledger.ensures in
    let inside = c.task.inside in
    let j : Joined = record { task = inside.task; slot = inside.slot; weight = inside.weight; early = inside.early } in
    let items = c.deref-task-items.result.now in
    let k = c.loop-task.task-index in
    let tasks = c.deref-task-items.ensures.value ∙ c.in_ok-admitted.ensures
    ∙ ap (λ xs. by_task (filter_map (join_of ledger.settings.base) xs)) c.deref.ensures.value in
    let at = subst (λ (x : Joined). x ≡ get_or items k x) (sym c.task.view_is) c.task-item.is in
    elim c.if-has.branch [
      | then-has+in_ok-run+in_ok-push w ↦
          sheet_added seen.state.plan seen.state.now ledger known items tasks c.args.tasks.now c.args.titles.now k j _ _ (omega arith) at
          w.quanta-ran.ensures w.diary-diary.ensures w.in_ok-run.run' c.loop-task.sheets.items _ w.in_ok-run.ensures
          (sym c.has.ensures ∙ w.if-has.true) (ap (λ v. v.items) w.sheets-is ∙ w.in_ok-push.ensures.items) c.loop-task.invariant
      | else-has w ↦
          sheet_left seen.state.plan seen.state.now ledger known items tasks c.args.tasks.now c.args.titles.now k j c.loop-task.sheets.items _ (omega arith) at
          (sym c.has.ensures ∙ w.if-has.false) (ap (λ v. v.items) w.sheets-is) c.loop-task.invariant
    ]

pub returns : goal.returns
returns c =
    let seen = c.args.snapshot.now in
    let ledger = c.in_ok-ledger.ledger in
    let known = ledger_of c.now.ensures.of_run c.scenario.ensures c.rows.ensures c.denials.ensures ledger c.in_ok-ledger.ensures in
    let tasks = c.deref-task-items.ensures.value ∙ c.in_ok-admitted.ensures
    ∙ ap (λ xs. by_task (filter_map (join_of ledger.settings.base) xs)) c.deref.ensures.value in
    sheets_all seen.state.plan seen.state.now ledger known _ tasks c.args.tasks.now c.args.titles.now c.loop-task.task-index c.loop-task.sheets.items (omega arith)
    c.loop-task.invariant
