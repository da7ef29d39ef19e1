use Rattle.std.proofs.Common.{ap, sym, ◌∙◌, refl}
use Rattle.std.proofs.lemmas.Result.{err_from_is_err_and}
use Rattle.pf_stream.proofs.Sending.{none_written}
use Rattle.pf_vocabulary.specs.Options.Formats.{range_fault}
use Rattle.pf_replies.specs.Course.{course_at}
use Rattle.pf_commands.proofs.Listed.{tasks_outside, tasks_stopped, tasks_written}
use Rattle.pf_commands.proofs.task_run.write_tasks.Goals as goal

pub returns-in-Some-clause-report : goal.returns-in-Some-clause-report
returns-in-Some-clause-report g c =
    tasks_outside c.args.format c.args.titles.now c.args.tasks (course_at c.args.desk.now) c.in-Some.fault _
    (c.in-Some.ensures ∙ ap (range_fault c.args.format) c.now.ensures.value)

pub returns-in_err-snapshot-clause-report : goal.returns-in_err-snapshot-clause-report
returns-in_err-snapshot-clause-report g c =
    let p = err_from_is_err_and c.from_residual.result c.from_residual.ensures.1 in rw (p.1, p.2) (none_written _ _)

pub returns-in_err-written-clause-report : goal.returns-in_err-written-clause-report
returns-in_err-written-clause-report g c =
    let p = err_from_is_err_and c.from_residual-in_err-written.result c.from_residual-in_err-written.ensures.1 in
    let e = c.in_ok-snapshot.ensures in
    let fits = ap (range_fault c.args.format) (sym c.now.ensures.value) ∙ sym c.in_default.ensures in
    rw (p.1, p.2) (tasks_stopped c.args.format c.args.titles.now c.args.tasks c.args.desk.now fits c.in_ok-snapshot.snapshot e.stands e.shown _ refl _ _ _ c.in_err-written.ensures.err)

pub returns-clause-report : goal.returns-clause-report
returns-clause-report g c =
    let e = c.in_ok-snapshot.ensures in
    let fits = ap (range_fault c.args.format) (sym c.now.ensures.value) ∙ sym c.in_default.ensures in
    tasks_written c.args.format c.args.titles.now c.args.tasks c.args.desk.now fits c.in_ok-snapshot.snapshot e.stands e.shown _ refl _ _ _ c.in_ok-written.ensures.ok
