use Rattle.std.proofs.lemmas.Result.{err_from_is_err_and}
use Rattle.pf_stream.proofs.Sending.{none_written}
use Rattle.pf_commands.proofs.task_run.write_listed.Goals as goal

pub returns-in_err-report-clause-err : goal.returns-in_err-report-clause-err
returns-in_err-report-clause-err g c =
    let p = err_from_is_err_and c.from_residual.result c.from_residual.ensures.1 in rw (p.1) (none_written _ _)
