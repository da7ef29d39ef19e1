use Rattle.pf_script_desk.proofs.Answered.{step_more}
use Rattle.pf_script_desk.proofs.carrying_desk.take_steps.Goals as goal

pub loop-turn-preserved : goal.loop-turn-preserved
loop-turn-preserved c =
    step_more c.loop-turn._turn c.args.desk.now c.loop-turn.desk c.step.new.self _ c.loop-turn.invariant c.in_ok-step.ensures.ok
