use Rattle.std.proofs.Common.{◌≡◌, ◌++◌, length}
use Rattle.pf_text.proofs.pieces.gathered.Given as goal

-- the text so far and what is left are the whole text
abbrev pub invariant-pieces : goal.invariant-pieces
invariant-pieces g l = l.text.items ++ g.P.Pieces.left l.pieces ≡ g.P.Pieces.left l.fn.pieces

abbrev pub decreases-pieces : goal.decreases-pieces
decreases-pieces g l = length (g.P.Pieces.left l.pieces)
