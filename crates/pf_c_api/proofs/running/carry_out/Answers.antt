use Rattle.std.proofs.lemmas.Result.{err_from_is_err_and}
use Rattle.pf_c_api.proofs.Records.{ended, line_answered, line_read, line_stopped}
use Rattle.pf_c_api.proofs.running.carry_out.Goals as goal

pub returns-in_err-line-clause-answers : goal.returns-in_err-line-clause-answers
returns-in_err-line-clause-answers c =
    let p = err_from_is_err_and c.from_residual.result c.from_residual.ensures.1 in
    rw (p.1, p.2) (ended (Unit {0}) _ _ _ _ _ _ _ _ c.records.invariant.way c.in_err-line.ensures)

pub records-preserved : goal.records-preserved
records-preserved c =
    let read = line_read c.in_ok-line.field-0 c.in-Some.line _ _ _ c.in-Some.is c.in_ok-line.ensures in
    record {
      way = line_answered _ _ _ _ _ _ _ _ read c.records.invariant.way c.in_ok-answer_line.ensures.ok;
      desk = c.in_ok-answer_line.ensures.desk;
    }

pub returns-in_err-answer_line-clause-answers : goal.returns-in_err-answer_line-clause-answers
returns-in_err-answer_line-clause-answers c =
    let p = err_from_is_err_and c.from_residual-in_err-answer_line.result c.from_residual-in_err-answer_line.ensures.1 in
    let read = line_read c.in_ok-line.field-0 c.in-Some.line _ _ _ c.in-Some.is c.in_ok-line.ensures in
    rw (p.1, p.2) (line_stopped _ _ _ _ _ _ _ _ read c.records.invariant.way c.in_err-answer_line.ensures.err)
