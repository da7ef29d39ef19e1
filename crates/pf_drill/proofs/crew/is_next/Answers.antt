use Rattle.std.proofs.Common.{refl, arith}
use Rattle.pf_drill.proofs.Gated.{has_taken}
use Rattle.pf_drill.proofs.crew.is_next.Goals as goal

pub returns : goal.returns
returns c = λ is.
    has_taken c.args.shifts.now c.args.quantum.now.processor _ c.index-shifts-worker.result c.deref.result.now c.args.quantum.now
    (omega (arith, c.if-worker-shifts.false)) c.deref.ensures.value (c.if-not-stands_at.ensures refl)
