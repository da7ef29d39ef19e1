use Rattle.std.proofs.Common.{◌∙◌, ap, sym}
use Rattle.pf_text.specs.Rows.Left.{lines_ahead}
use Rattle.pf_text.specs.Rows.Places.{line_at, lines_behind, state_of}
use Rattle.pf_text.proofs.RowsLemmas.Lines.{behind-cons, lines-end, some-left}
use Rattle.pf_text.proofs.rows.row_lines.RowLines.next_line.Goals as goal

pub returns-then-begins_record-clause-rest : goal.returns-then-begins_record-clause-rest
returns-then-begins_record-clause-rest c =
    let next = c.begins_record.new.self in
    let begun = rw c.if-begins_record.true at c.begins_record.ensures.lines in
    let behind = behind-cons c.loop-self.self.line (lines_ahead next) (some-left (state_of next.place) next.line next.before _) in
    sym (ap lines_behind (sym c.loop-self.invariant.lines ∙ begun) ∙ behind)

pub returns-clause-line : goal.returns-clause-line
returns-clause-line c =
    let end = lines-end _ _ _ _ _ c.loop-self-test.false in
    sym (ap line_at (sym c.loop-self.invariant.lines ∙ end))

pub returns-clause-rest : goal.returns-clause-rest
returns-clause-rest c =
    let end = lines-end _ _ _ _ _ c.loop-self-test.false in
    end ∙ sym (ap lines_behind (sym c.loop-self.invariant.lines ∙ end))
