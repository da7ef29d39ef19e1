use Rattle.std.proofs.Common.{arith}
use Rattle.pf_timeline.proofs.Points.{near_last, far_last}
use Rattle.pf_timeline.proofs.near_checkpoints.last_of.Goals as goal
use Rattle.pf_timeline.proofs.near_checkpoints.last_of.Goals.{else-start-from-via-then-start-from+else-every-ge-NEAR_DISTANCE, else-start-from-via-else-start-from}

pub returns-then-every-ge-NEAR_DISTANCE : goal.returns-then-every-ge-NEAR_DISTANCE
returns-then-every-ge-NEAR_DISTANCE c =
    near_last _ _ c.args.from _ _ c.last.ensures c.start.ensures.every (omega (arith, c.if-every-ge-NEAR_DISTANCE.true, c.every.ensures))

pub returns-else-start-from : goal.returns-else-start-from
returns-else-start-from c =
    far_last _ _ c.args.from _ _ c.last-else-start-from.ensures (λ back. elim c.else-start-from.branch [
      | else-start-from-via-then-start-from+else-every-ge-NEAR_DISTANCE w ↦ omega (arith, w.if-every-ge-NEAR_DISTANCE.false, w.every.ensures)
      | else-start-from-via-else-start-from w ↦ absurd (omega (arith, w.if-start-from.false, c.start.ensures.slot, back))
    ])
