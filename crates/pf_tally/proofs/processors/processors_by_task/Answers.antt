use Rattle.std.proofs.Common.{arith}
use Rattle.pf_tally.proofs.Noting.{got_at}
use Rattle.pf_tally.proofs.Seats.{row_placed}
use Rattle.pf_tally.proofs.processors.processors_by_task.Goals as goal

pub loop-t-preserved : goal.loop-t-preserved
loop-t-preserved c =
    row_placed c.args.rows.now _ _ _ c.loop-t.t (omega arith) (got_at c.args.rows.now c.loop-t.t _ c.in-Some.ensures) c.loop-t.invariant c.in_ok-note_places-in-Some.ensures
