use Rattle.std.proofs.Common.{◌∙◌, ap, sym, arith}
use Rattle.pf_script.specs.Left.{lines_ahead}
use Rattle.pf_script.specs.Places.{line_at, lines_behind}
use Rattle.pf_script.proofs.Lines.{none-passed, passed-one}
use Rattle.pf_script.proofs.record_lines.RecordLines.next_line.Goals as goal

pub loop-self-preserved : goal.loop-self-preserved
loop-self-preserved c =
    record { lines = passed-one _ _ _ _ (omega arith) c.find_line.ensures.passed c.find_line.ensures.rest ∙ c.loop-self.invariant.lines }

pub returns-clause-line : goal.returns-clause-line
returns-clause-line c =
    let left = none-passed c.loop-self.self.passed (lines_ahead c.loop-self.self) c.loop-self-test.false in
    c.find_line-2.ensures.line ∙ ap line_at (sym left ∙ c.loop-self.invariant.lines)

pub returns-clause-rest : goal.returns-clause-rest
returns-clause-rest c =
    let left = none-passed c.loop-self.self.passed (lines_ahead c.loop-self.self) c.loop-self-test.false in
    none-passed c.find_line-2.new.self.passed (lines_ahead c.find_line-2.new.self) (omega (arith, c.find_line-2.ensures.passed, c.loop-self-test.false))
    ∙ c.find_line-2.ensures.rest
    ∙ ap lines_behind (sym left ∙ c.loop-self.invariant.lines)
