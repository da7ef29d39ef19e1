use Rattle.std.proofs.Common.{sym, ap, subst, ◌∙◌}
use Rattle.std.proofs.lemmas.Result.{err_from_is_err_and}
use Rattle.pf_desk.specs.Desk.{AnswersAll}
use Rattle.pf_script.specs.Told.{LinesTold}
use Rattle.pf_script_desk.specs.Carrying.{script_caller}
use Rattle.pf_script_run.proofs.Answered.{line_stops, line_taken, none_left}
use Rattle.pf_script_run.proofs.carry.carry_lines.Goals as goal

pub returns-in_err-told-clause-stopped : goal.returns-in_err-told-clause-stopped
returns-in_err-told-clause-stopped c =
    let p = err_from_is_err_and c.from_residual.result c.from_residual.ensures.1 in
    rw (p.1, p.2) (line_stops c.args.lines.fault c.lines.lines _ _ _ c.lines.invariant.fault c.in_err-told.ensures)

pub returns-in_err-take-clause-stopped : goal.returns-in_err-take-clause-stopped
returns-in_err-take-clause-stopped c =
    let p = err_from_is_err_and c.from_residual-in_err-take.result c.from_residual-in_err-take.ensures.1 in
    rw (p.1, p.2) tt

pub returns-in_err-answer_waiting-clause-stopped : goal.returns-in_err-answer_waiting-clause-stopped
returns-in_err-answer_waiting-clause-stopped c =
    let p = err_from_is_err_and c.from_residual-in_err-answer_waiting.result c.from_residual-in_err-answer_waiting.ensures.1 in
    rw (p.1, p.2) tt

pub lines-preserved : goal.lines-preserved
lines-preserved c =
    let read = rw c.in-Some.is at c.in_ok-told.ensures in
    record {
      answers = λ after rest.
          c.lines.invariant.answers after
          (line_taken c.lines.desk c.take.new.self c.lines.lines c.next.new.self c.in-Some.told after read c.in_ok-take.ensures rest);
      fault = sym (ap (λ (told : LinesTold). told.fault) read) ∙ c.lines.invariant.fault;
    }

pub returns-clause-answered : goal.returns-clause-answered
returns-clause-answered c =
    let desk = c.into_desk.result in
    c.lines.invariant.answers desk
    (none_left c.lines.desk c.lines.lines desk (rw c.in_default.is at c.in_ok-told.ensures)
    (subst (AnswersAll script_caller c.lines.desk.waiting c.lines.desk.desk) (sym c.into_desk.ensures) c.in_ok-answer_waiting.ensures.answered))
