use Rattle.std.proofs.Common.{◌≡◌, length}
use Rattle.pf_stream.specs.Written.{TookAllBut}
use Rattle.pf_stream.proofs.writing.write_pieces.Given as goal

-- the writer took the front of the whole text, and the pieces left are the rest; no write has failed
abbrev pub invariant-pieces : goal.invariant-pieces
invariant-pieces g l = record {
  way : TookAllBut (g.P.Pieces.left l.pieces) (g.W.Write.contents l.fn.writer) (g.W.Write.contents l.writer) (g.P.Pieces.left l.fn.pieces);
  kept : g.P.Pieces.outcome l.pieces ≡ g.P.Pieces.outcome l.fn.pieces;
  count : g.W.Sink.failed l.writer ≡ g.W.Sink.failed l.fn.writer;
}

abbrev pub decreases-pieces : goal.decreases-pieces
decreases-pieces g l = length (g.P.Pieces.left l.pieces)
