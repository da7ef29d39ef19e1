use Rattle.std.proofs.Common.{◌++◌, ◌∙◌, ap, sym}
use Rattle.pf_lemmas.proofs.Options.{anyway}
use Rattle.pf_stream.proofs.Sending.{piece_stopped, piece_written}
use Rattle.pf_stream.proofs.writing.write_pieces.Goals as goal

pub returns-in_err-write_out-clause-err : goal.returns-in_err-write_out-clause-err
returns-in_err-write_out-clause-err g c =
    let rest = g.P.Pieces.left c.next_piece.new.self in
    let took = rw c.in-Some.is at c.in_ok-piece.ensures.text in
    anyway c.from_residual-in_err-write_out.result _
    (piece_stopped _ _ _ _ c.as_slice.result.now rest _ (took.0 ∙ ap (λ p. p ++ rest) (sym c.as_slice.ensures.value)) c.pieces.invariant.way c.in_err-write_out.ensures.err)

pub pieces-preserved : goal.pieces-preserved
pieces-preserved g c =
    let rest = g.P.Pieces.left c.next_piece.new.self in
    let took = rw c.in-Some.is at c.in_ok-piece.ensures.text in
    record {
      way = piece_written _ _ _ _ c.as_slice.result.now rest _ (took.0 ∙ ap (λ p. p ++ rest) (sym c.as_slice.ensures.value)) c.pieces.invariant.way c.in_ok-write_out.ensures.ok;
      kept = c.in_ok-piece.ensures.kept ∙ c.pieces.invariant.kept;
      count = c.in_ok-write_out.ensures.count ∙ c.pieces.invariant.count;
    }
