use Rattle.pf_cli.proofs.FaultLines.{err_anyway, rest_stopped}
use Rattle.pf_cli.proofs.fault_line.write_two.Goals as goal

pub returns-in_err-write_out-2-clause-err : goal.returns-in_err-write_out-2-clause-err
returns-in_err-write_out-2-clause-err g c =
    err_anyway _ _ (rest_stopped _ _ _ c.args.first.now c.args.second.now c.in_ok-write_out.ensures.ok c.in_err-write_out-2.ensures.err)
