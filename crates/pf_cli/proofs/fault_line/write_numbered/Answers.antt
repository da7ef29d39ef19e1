use Rattle.std.proofs.Common.{◌++◌}
use Rattle.std.specs.Fmt.{decimal}
use Rattle.pf_cli.proofs.FaultLines.{err_anyway, rest_stopped}
use Rattle.pf_cli.proofs.fault_line.write_numbered.Goals as goal

pub returns-in_err-write_number-clause-err : goal.returns-in_err-write_number-clause-err
returns-in_err-write_number-clause-err g c =
    err_anyway _ _ (rest_stopped _ _ _ c.args.before.now (decimal c.args.number ++ c.args.behind.now) c.in_ok-write_out.ensures.ok c.in_err-write_number.ensures.err)
