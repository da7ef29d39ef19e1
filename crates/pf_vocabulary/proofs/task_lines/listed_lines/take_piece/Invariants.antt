use Rattle.std.proofs.Common.{◌≡◌, ◌++◌, ℕ, List, drop}
use Rattle.pf_vocabulary.specs.TaskLines.Lines.{shown_from}
use Rattle.pf_vocabulary.proofs.task_lines.listed_lines.take_piece.Given as goal

-- the lines that ended, and those of what is left of the piece and after it, are all
abbrev pub invariant-loop-byte : goal.invariant-loop-byte
invariant-loop-byte l =
    (rest : List ℕ) → l.shown.items ++ shown_from l.tasks l.column l.line.items (drop l.byte-index l.piece ++ rest)
    ≡ shown_from l.tasks l.column l.fn.line.items (l.piece ++ rest)
