use Rattle.std.proofs.Common.{◌+◌, sym, subst}
use Rattle.std.proofs.lemmas.Bool.{iff_false}
use Rattle.pf_convert.proofs.Choosing.{IsBestOrNone, quantum_passed, quantum_taken, best_of_quanta}
use Rattle.pf_convert.proofs.best_quantum.best_quantum.Goals as goal
use Rattle.pf_convert.proofs.best_quantum.best_quantum.Goals.{then-fits, else-fits}

pub loop-next-preserved : goal.loop-next-preserved
loop-next-preserved c =
    elim c.if-fits.branch [
      | then-fits w ↦
          subst (IsBestOrNone c.args.processors c.args.outcomes.now (c.loop-next.next + 1)) (sym w.best-is)
          (quantum_taken c.args.processors c.args.outcomes.now c.loop-next.next w.better.result c.loop-next.best c.loop-next-test.true
          (c.fits.ensures.0 w.if-fits.true) w.better.ensures c.loop-next.invariant)
      | else-fits w ↦
          subst (IsBestOrNone c.args.processors c.args.outcomes.now (c.loop-next.next + 1)) (sym w.best-is)
          (quantum_passed c.args.processors c.args.outcomes.now c.loop-next.next c.loop-next.best c.loop-next-test.true
          (iff_false c.fits.ensures w.if-fits.false) c.loop-next.invariant)
    ]

pub returns : goal.returns
returns c = best_of_quanta c.args.processors c.args.outcomes.now c.loop-next.next c.loop-next.best c.loop-next-test.false c.loop-next.invariant
