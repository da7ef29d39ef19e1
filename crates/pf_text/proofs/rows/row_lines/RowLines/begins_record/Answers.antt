use Rattle.std.proofs.Common.{refl}
use Rattle.pf_text.proofs.RowsLemmas.Lines.{lines-on}
use Rattle.pf_text.proofs.rows.row_lines.RowLines.begins_record.Goals as goal

pub returns-then-was_between-clause-lines : goal.returns-then-was_between-clause-lines
returns-then-was_between-clause-lines c =
    lines-on _ _ _ _ _ _ _ _ c.requires.some c.after-self.ensures c.line_after-self.ensures.line
    (rw (c.is_between.ensures, c.after-self.ensures, ← c.is_between-was_between.ensures, c.if-was_between.true) refl)

pub returns-else-was_between-clause-lines : goal.returns-else-was_between-clause-lines
returns-else-was_between-clause-lines c =
    lines-on _ _ _ _ _ _ _ _ c.requires.some c.after-self.ensures c.line_after-self.ensures.line
    (rw (← c.is_between-was_between.ensures, c.if-was_between.false) refl)
