use Rattle.std.proofs.Common.{◌∙◌, sym, arith}
use Rattle.pf_text.proofs.ColumnsLemmas.Blanks.{one_less, at_end, nothing_left}
use Rattle.pf_text.proofs.columns.columns.without_end_blanks.Goals as goal
use Rattle.pf_text.proofs.columns.columns.without_end_blanks.Goals.{then-loop-end-test+else-text-end-eq32, else-loop-end-test}

pub loop-end-preserved : goal.loop-end-preserved
loop-end-preserved c = record {
  within = omega (arith, c.loop-end.invariant.within);
  same =
      sym (one_less c.args.text.now c.loop-end.end (omega (arith, c.loop-end-test.true)) c.loop-end.invariant.within c.if-text-end-eq32.true)
      ∙ c.loop-end.invariant.same;
}

pub returns : goal.returns
returns c =
    elim c.loop-end-test.branch [
      | then-loop-end-test+else-text-end-eq32 w ↦
          sym (at_end c.args.text.now c.loop-end.end (omega (arith, w.loop-end-test.true)) c.loop-end.invariant.within w.if-text-end-eq32.false)
          ∙ c.loop-end.invariant.same
      | else-loop-end-test w ↦
          nothing_left c.args.text.now c.loop-end.end (omega (arith, w.loop-end-test.false)) ∙ c.loop-end.invariant.same
    ]
