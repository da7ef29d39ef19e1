use Rattle.std.proofs.Common.{rules}
use Rattle.pf_answers.specs.Steps.{step_text}
use Rattle.pf_session.proofs.Held.{steps_answered}
use Rattle.pf_session.proofs.Steps.{amid_at, text_more}
use Rattle.pf_session.proofs.step.take_steps.Goals as goal

pub loop-turn-preserved : goal.loop-turn-preserved
loop-turn-preserved c = record {
  answered = steps_answered c.loop-turn.turn c.args.desk.now c.loop-turn.desk c.add_step.new.desk c.loop-turn.invariant.answered c.in_ok-add_step.ensures.answered;
  text = text_more (step_text c.args.json c.args.first) c.args.desk.now.state c.loop-turn.desk.state c.loop-turn.turn c.args.answer.now.items
      c.loop-turn.answer.items c.add_step.new.answer.items c.loop-turn.invariant.answered.state c.loop-turn.invariant.text c.in_ok-add_step.ensures.text;
}

pub returns-in_err-add_step-clause-lost : goal.returns-in_err-add_step-clause-lost
returns-in_err-add_step-clause-lost c lost =
    amid_at c.args.desk.now.state c.loop-turn.desk.state c.add_step.new.desk.state c.loop-turn.turn c.args.count c.loop-turn.invariant.answered.state
    (search rules) (c.in_err-add_step.ensures.lost (search rules))
