use Rattle.std.proofs.Common.{◌≡◌, arith, rules}
use Rattle.pf_c_forms.specs.declared.status.TheConstants.{OK}
use Rattle.pf_c_api.proofs.Stepping.{step_taken, steps_end}
use Rattle.pf_c_api.proofs.commands.advance.Goals as goal

pub returns-then-status-ne-OK-clause-answers : goal.returns-then-status-ne-OK-clause-answers
returns-then-status-ne-OK-clause-answers c =
    let before = c.loop-taken.invariant in
    steps_end _ _ _ _ _ _ _ c.loop-taken-test.true c.if-status-ne-OK.true c.step-status.ensures.answers before.answers before.now

pub loop-taken-preserved : goal.loop-taken-preserved
loop-taken-preserved c =
    let before = c.loop-taken.invariant in
    let ok : c.step-status.result ≡ OK = search rules in
    let more = step_taken _ _ _ _ _ _ ok c.step-status.ensures.answers before.answers before.now in
    record {
      within = omega (arith, c.loop-taken-test.true);
      now = more.0;
      answers = more.1;
      desk = c.step-status.ensures.desk;
    }
