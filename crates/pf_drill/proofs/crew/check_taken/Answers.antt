use Rattle.std.proofs.Common.{below_more, refl, subst, ℕ, arith}
use Rattle.std.specs.Prelude.{slice_index_or}
use Rattle.pf_lemmas.proofs.Lists.{at_any}
use Rattle.pf_board.specs.declared.quantum.Quantum.{Quantum}
use Rattle.pf_drill.specs.Gates.{HasTaken}
use Rattle.pf_drill.proofs.crew.check_taken.Goals as goal

pub loop-quantum-preserved : goal.loop-quantum-preserved
loop-quantum-preserved c = λ k d lt.
    below_more (λ j. (e : Quantum) → HasTaken c.args.shifts.now (slice_index_or c.args.issued.now j e)) c.loop-quantum.quantum-index
    (λ j less e. c.loop-quantum.invariant j e less)
    (λ e. subst (λ (q : Quantum). HasTaken c.args.shifts.now q) (at_any c.args.issued.now c.loop-quantum.quantum-index _ e c.loop-quantum-test.true) (c.if-not-is_next.ensures refl))
    k lt d

pub returns : goal.returns
returns c = record { taken = λ k d lt. c.loop-quantum.invariant k d (omega (arith, c.loop-quantum-test.false, lt)); halt = tt }
