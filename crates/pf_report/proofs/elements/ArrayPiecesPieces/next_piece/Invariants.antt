use Rattle.std.proofs.Common.{◌-◌, ◌≡◌, ◌<◌, ◌≤◌, ◌++◌, length}
use Rattle.pf_report.specs.Parts.{elements_text}
use Rattle.pf_report.proofs.elements.ArrayPiecesPieces.next_piece.Given as goal

-- what the piece has and the elements left are the text that was left, and the piece is not empty once one was passed
abbrev pub invariant-loop-at : goal.invariant-loop-at
invariant-loop-at g l = record {
  whole : l.piece.items ++ elements_text l.at (g.E.Elements.rest l.self-inside.elements l.at) ≡ l.fn.self;
  within : l.at ≤ l.count;
  behind : l.self-inside.at ≤ l.at;
  some : l.self-inside.at < l.at → 0 < length l.piece.items;
}

abbrev pub decreases-loop-at : goal.decreases-loop-at
decreases-loop-at g l = l.count - l.at
