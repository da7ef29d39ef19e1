use Rattle.std.proofs.Common.{◌∙◌, ap, sym}
use Rattle.pf_script.specs.Places.{line_at, lines_behind}
use Rattle.pf_script.proofs.Lines.{lines-end}
use Rattle.pf_script.proofs.record_lines.RecordLines.find_line.Goals as goal

pub returns-clause-line : goal.returns-clause-line
returns-clause-line c =
    let end = lines-end _ _ _ _ _ _ c.loop-self.invariant.going c.loop-self-test.false in
    sym (ap line_at (sym c.loop-self.invariant.lines ∙ end))

pub returns-clause-rest : goal.returns-clause-rest
returns-clause-rest c =
    let end = lines-end _ _ _ _ _ _ c.loop-self.invariant.going c.loop-self-test.false in
    sym (ap lines_behind (sym c.loop-self.invariant.lines ∙ end))
