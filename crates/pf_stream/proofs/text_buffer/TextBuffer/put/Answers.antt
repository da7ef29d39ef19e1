use Rattle.pf_stream.proofs.Sending.{err-before, ok-after, err-after}
use Rattle.pf_stream.proofs.text_buffer.TextBuffer.put.Goals as goal

pub returns-in_err-write_waiting-clause-err : goal.returns-in_err-write_waiting-clause-err
returns-in_err-write_waiting-clause-err g c =
    err-before c.from_residual.result _ _ _ c.args.piece.now c.in_err-write_waiting.ensures.err

pub returns-then-piece-gt-MOST_WAITING-clause-ok : goal.returns-then-piece-gt-MOST_WAITING-clause-ok
returns-then-piece-gt-MOST_WAITING-clause-ok g c =
    rw c.in_ok-write_waiting.ensures.none (ok-after c.write_out.result _ _ _ _ c.args.piece.now c.in_ok-write_waiting.ensures.ok c.write_out.ensures.ok)

pub returns-then-piece-gt-MOST_WAITING-clause-err :
    goal.returns-then-piece-gt-MOST_WAITING-clause-err
returns-then-piece-gt-MOST_WAITING-clause-err g c =
    err-after c.write_out.result _ _ _ _ c.args.piece.now c.in_ok-write_waiting.ensures.ok c.write_out.ensures.err
