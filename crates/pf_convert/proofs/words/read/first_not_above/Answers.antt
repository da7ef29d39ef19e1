use Rattle.std.proofs.Common.{◌∙◌, ◌<◌, sym, subst, arith, below_more}
use Rattle.std.proofs.lemmas.List.{get_or_default}
use Rattle.pf_convert.proofs.WordsLemmas.Words.{not_above, above_passed, all_above}
use Rattle.pf_convert.proofs.words.read.first_not_above.Goals as goal

pub returns-then-quantum-switch-clause-value : goal.returns-then-quantum-switch-clause-value
returns-then-quantum-switch-clause-value c =
    sym (not_above c.args.quanta.now c.loop-quantum.quantum-index c.args.switch c.loop-quantum-test.true c.if-quantum-switch.true) ∙ c.loop-quantum.invariant.value

pub loop-quantum-preserved : goal.loop-quantum-preserved
loop-quantum-preserved c = record {
  value =
      sym (above_passed c.args.quanta.now c.loop-quantum.quantum-index c.args.switch c.loop-quantum-test.true c.if-quantum-switch.false)
      ∙ c.loop-quantum.invariant.value;
  above = below_more _ _ c.loop-quantum.invariant.above c.if-quantum-switch.false;
}

pub returns-clause-value : goal.returns-clause-value
returns-clause-value c =
    sym (all_above c.args.quanta.now c.loop-quantum.quantum-index c.args.switch c.loop-quantum-test.false) ∙ c.loop-quantum.invariant.value

pub returns-clause-above : goal.returns-clause-above
returns-clause-above c e k d lt =
    subst (λ q. c.args.switch < q) (get_or_default c.args.quanta.now k 0 d lt)
    (c.loop-quantum.invariant.above k (omega (arith, lt, c.loop-quantum-test.false)))
