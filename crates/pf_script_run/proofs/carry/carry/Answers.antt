use Rattle.std.proofs.lemmas.Result.{err_from_is_err_and}
use Rattle.pf_script.specs.Told.{told}
use Rattle.pf_script_run.proofs.Answered.{carried_if, opening_stops, stops_if, whole_if}
use Rattle.pf_script_run.proofs.carry.carry.Goals as goal

pub returns-in_err-opened-clause-stopped : goal.returns-in_err-opened-clause-stopped
returns-in_err-opened-clause-stopped c =
    let p = err_from_is_err_and c.from_residual.result c.from_residual.ensures.1 in
    rw (p.1, p.2) (opening_stops (told c.args.script.now) _ _ c.in_err-opened.ensures)

pub returns-clause-carried : goal.returns-clause-carried
returns-clause-carried c =
    carried_if (told c.args.script.now) c.in_ok-opened.opened.opening c.in_ok-opened.opened.lines c.in_ok-opened.ensures.1
    c.carry_lines.result c.in_ok-desk.desk c.in_ok-desk.ensures c.carry_lines.ensures.answered

pub returns-clause-whole : goal.returns-clause-whole
returns-clause-whole c =
    whole_if (told c.args.script.now) c.in_ok-opened.opened.opening c.in_ok-opened.opened.lines c.in_ok-opened.ensures.1
    c.carry_lines.result c.carry_lines.ensures.whole

pub returns-clause-stopped : goal.returns-clause-stopped
returns-clause-stopped c =
    stops_if (told c.args.script.now) c.in_ok-opened.opened.opening c.in_ok-opened.opened.lines c.in_ok-opened.ensures.1
    c.carry_lines.result c.carry_lines.ensures.stopped
