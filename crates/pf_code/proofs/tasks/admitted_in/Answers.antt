use Rattle.std.proofs.Common.{◌∙◌, ap}
use Rattle.std.proofs.lemmas.Result.{IfOk-weaker}
use Rattle.pf_run.specs.Computed.{run_of}
use Rattle.pf_courses.proofs.OfRun.{ledger_of, of_run}
use Rattle.pf_code.specs.Repetition.{admitted_in}
use Rattle.pf_code.specs.Span.{are_owed_whole}
use Rattle.pf_code.proofs.Owed.{admitted_is, base_is_owed}
use Rattle.pf_code.proofs.tasks.admitted_in.Goals as goal

pub make_ledger-requires : goal.make_ledger-requires
make_ledger-requires c = of_run c.now.ensures.of_run c.scenario.ensures c.rows.ensures c.denials.ensures

pub returns-clause-tasks : goal.returns-clause-tasks
unfolding admitted_in
returns-clause-tasks c =
    let seen = c.args.snapshot.now in
    let ledger = c.in_ok-ledger.ledger in
    let known = ledger_of c.now.ensures.of_run c.scenario.ensures c.rows.ensures c.denials.ensures ledger c.in_ok-ledger.ensures in
    IfOk-weaker c.admitted_by_number.result _ _
    (λ v is. is ∙ admitted_is seen.state.plan seen.state.now ledger c.deref.result.now known c.deref.ensures.value)
    c.admitted_by_number.ensures

pub returns-clause-whole : goal.returns-clause-whole
returns-clause-whole c =
    let seen = c.args.snapshot.now in
    let s = seen.state.plan in
    let ledger = c.in_ok-ledger.ledger in
    let known = ledger_of c.now.ensures.of_run c.scenario.ensures c.rows.ensures c.denials.ensures ledger c.in_ok-ledger.ensures in
    IfOk-weaker c.admitted_by_number.result _ _
    (λ v is.
    ap (λ js. are_owed_whole js s.settings.base) (is ∙ admitted_is s seen.state.now ledger c.deref.result.now known c.deref.ensures.value)
    ∙ base_is_owed s (run_of s seen.state.now) known.scenario)
    c.admitted_by_number.ensures
