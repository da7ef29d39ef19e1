use Rattle.std.proofs.Common.{◌∙◌, sym}
use Rattle.pf_convert.proofs.WordsLemmas.Words.{quantum_met, quantum_passed, none_met}
use Rattle.pf_convert.proofs.words.quanta.has_quantum.Goals as goal

pub returns-then-other-quantum : goal.returns-then-other-quantum
returns-then-other-quantum c =
    sym (quantum_met c.args.quanta.now c.loop-other.other-index c.args.quantum c.loop-other-test.true c.if-other-quantum.true) ∙ c.loop-other.invariant

pub loop-other-preserved : goal.loop-other-preserved
loop-other-preserved c =
    sym (quantum_passed c.args.quanta.now c.loop-other.other-index c.args.quantum c.loop-other-test.true c.if-other-quantum.false) ∙ c.loop-other.invariant

pub returns : goal.returns
returns c = sym (none_met c.args.quanta.now c.loop-other.other-index c.args.quantum c.loop-other-test.false) ∙ c.loop-other.invariant
