use Rattle.std.proofs.Common.{ap, ◌∙◌}
use Rattle.std.proofs.lemmas.Result.{err_from_is_err_and}
use Rattle.pf_replies.specs.Course.{opening_course}
use Rattle.pf_change.specs.Change.{change_behind}
use Rattle.pf_change.proofs.Records.{lines_made, lines_stop, opening_stops}
use Rattle.pf_change.proofs.diff.diff_script.Goals as goal

pub returns-in_err-script-clause-stopped : goal.returns-in_err-script-clause-stopped
returns-in_err-script-clause-stopped c =
    let p = err_from_is_err_and c.from_residual.result c.from_residual.ensures.1 in
    rw (p.1, p.2) (opening_stops c.args.options c.args.since c.args.bytes.now _ _ c.in_err-script.ensures)

pub returns-in-Err-clause-stopped : goal.returns-in-Err-clause-stopped
returns-in-Err-clause-stopped c =
    lines_stop c.args.options c.args.since c.args.bytes.now c.in_ok-script.script.opening c.in_ok-script.script.lines c.in_ok-script.ensures.1 c.in-Err.fault c.in-Err.ensures.stopped

pub returns-in-Ok-diff_lines-clause-made : goal.returns-in-Ok-diff_lines-clause-made
returns-in-Ok-diff_lines-clause-made c =
    lines_made c.args.options c.args.since c.args.bytes.now c.in_ok-script.script.opening c.in_ok-script.script.lines c.in_ok-script.ensures.1 c.in-Ok.lines.items _ c.in-Ok.ensures.read
    (c.in-Ok-diff_lines.ensures.told
    ∙ ap (change_behind c.args.options c.args.since (opening_course c.in_ok-script.script.opening.every c.in_ok-script.script.opening.settings)) c.deref.ensures.value)
