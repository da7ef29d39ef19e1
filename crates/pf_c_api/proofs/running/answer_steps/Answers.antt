use Rattle.pf_c_api.proofs.Records.{steps_stopped}
use Rattle.pf_c_api.proofs.Stepping.{one_more}
use Rattle.pf_c_api.proofs.running.answer_steps.Goals as goal

pub returns-in_err-apply-clause-err : goal.returns-in_err-apply-clause-err
returns-in_err-apply-clause-err c =
    steps_stopped c.from_residual.result _ _ _ _ _ _ c.loop-turn-test.true c.loop-turn.invariant.answers c.in_err-apply.ensures.err

pub loop-turn-preserved : goal.loop-turn-preserved
loop-turn-preserved c = record {
  answers = one_more _ _ _ _ _ _ c.loop-turn.invariant.answers c.in_ok-apply.ensures.ok;
  desk = c.in_ok-apply.ensures.desk;
}
