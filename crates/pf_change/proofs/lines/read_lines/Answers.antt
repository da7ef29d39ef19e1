use Rattle.std.proofs.Common.{ap, ◌∙◌, sym}
use Rattle.std.proofs.lemmas.Result.{err_from_is_err_and}
use Rattle.pf_script.specs.Told.{LinesTold}
use Rattle.pf_change.proofs.Records.{line_stops, lines_on, lines_whole}
use Rattle.pf_change.proofs.lines.read_lines.Goals as goal

pub returns-in_err-line-clause-stopped : goal.returns-in_err-line-clause-stopped
returns-in_err-line-clause-stopped c =
    let p = err_from_is_err_and c.from_residual.result c.from_residual.ensures.1 in
    rw (p.1, p.2) (line_stops c.args.lines.fault c.records.lines _ _ _ c.records.invariant.fault c.in_err-line.ensures)
