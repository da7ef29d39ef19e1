use Rattle.std.proofs.Common.{◌≡◌, ◌≤◌, ◌∙◌, ◌++◌, length, ap, subst, rules, tests}
use Rattle.pf_lemmas.proofs.Lists.{none_long}
use Rattle.pf_text.specs.Pieces.{TakesPiece}
use Rattle.pf_vocabulary.specs.TaskLines.Lines.{shown_line}
use Rattle.pf_vocabulary.proofs.TaskLinesLemmas.Shown.{behind_last, last_is, last_shown}
use Rattle.pf_vocabulary.proofs.task_lines.listed_lines.ListedLinesPieces.next_piece.Goals as goal

pub returns-then-is_empty-clause-text : goal.returns-then-is_empty-clause-text
returns-then-is_empty-clause-text g c =
    let left = g.P.Pieces.left in
    let was = c.pieces.self-inside in
    let taken = subst (λ p. TakesPiece p (left was.pieces) (left c.next_piece.new.self)) c.in_default.is c.in_ok-piece.ensures.text in
    let shows = c.in_ok-take_line.ensures.text ∙ ap (λ s. s ++ shown_line was.tasks was.column was.line.items) c.new-shown.ensures.items in
    let zero : length c.take_line.new.shown.items ≡ 0 = search (rules, tests) in (
      last_is was.tasks was.column was.line.items c.take_line.new.line.items c.take_line.new.shown.items (left was.pieces) (left c.next_piece.new.self) _ taken
          c.pieces.invariant shows c.in_ok-take_line.ensures.line
          ∙ none_long c.take_line.new.shown.items zero,
      behind_last was.tasks was.column was.line.items c.take_line.new.line.items c.take_line.new.shown.items (left was.pieces) (left c.next_piece.new.self) _ taken
          c.pieces.invariant shows c.in_ok-take_line.ensures.line,
    )

pub returns-clause-text : goal.returns-clause-text
returns-clause-text g c =
    let left = g.P.Pieces.left in
    let was = c.pieces.self-inside in
    let taken = subst (λ p. TakesPiece p (left was.pieces) (left c.next_piece.new.self)) c.in_default.is c.in_ok-piece.ensures.text in
    let shows = c.in_ok-take_line.ensures.text ∙ ap (λ s. s ++ shown_line was.tasks was.column was.line.items) c.new-shown.ensures.items in
    let some : 1 ≤ length c.take_line.new.shown.items = search (rules, tests) in (
      last_shown was.tasks was.column was.line.items c.take_line.new.line.items c.take_line.new.shown.items (left was.pieces) (left c.next_piece.new.self) _ taken
          c.pieces.invariant shows c.in_ok-take_line.ensures.line,
      some,
    )
