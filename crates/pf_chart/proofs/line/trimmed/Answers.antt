use Rattle.std.proofs.Common.{arith}
use Rattle.pf_chart.proofs.Lines.{blank_left_out, none_left_out, all_left_out}
use Rattle.pf_chart.proofs.line.trimmed.Goals as goal
use Rattle.pf_chart.proofs.line.trimmed.Goals.{then-loop-end-test+else-line-end-eq-BLANK, else-loop-end-test}

pub loop-end-preserved : goal.loop-end-preserved
loop-end-preserved c = record {
  within = omega (arith, c.loop-end.invariant.within);
  same = blank_left_out c.args.line.now c.loop-end.end (omega (arith, c.loop-end-test.true)) c.loop-end.invariant.within c.if-line-end-eq-BLANK.true c.loop-end.invariant.same;
}

pub returns : goal.returns
returns c = elim c.loop-end-test.branch [
  | then-loop-end-test+else-line-end-eq-BLANK w ↦
      none_left_out c.args.line.now c.loop-end.end (omega (arith, w.loop-end-test.true)) c.loop-end.invariant.within w.if-line-end-eq-BLANK.false c.loop-end.invariant.same
  | else-loop-end-test w ↦ all_left_out c.args.line.now c.loop-end.end (omega (arith, w.loop-end-test.false)) c.loop-end.invariant.same
]
