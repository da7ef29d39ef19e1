use Rattle.std.proofs.Common.{◌≡◌, length}
use Rattle.pf_vocabulary.specs.TaskLines.Lines.{shown_from}
use Rattle.pf_vocabulary.proofs.task_lines.listed_lines.ListedLinesPieces.next_piece.Given as goal

-- nothing was shown yet
abbrev pub invariant-pieces : goal.invariant-pieces
invariant-pieces g l = shown_from l.self-inside.tasks l.self-inside.column l.self-inside.line.items (g.P.Pieces.left l.self-inside.pieces) ≡ l.fn.self

abbrev pub decreases-pieces : goal.decreases-pieces
decreases-pieces g l = length (g.P.Pieces.left l.self-inside.pieces)
