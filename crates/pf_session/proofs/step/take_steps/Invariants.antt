use Rattle.std.proofs.Common.{◌≡◌, ◌++◌, replicate}
use Rattle.std.specs.List.{flat_map}
use Rattle.pf_answers.specs.Steps.{replies_from, step_text}
use Rattle.pf_desk.specs.declared.command.Command.TheVariants.{Step}
use Rattle.pf_session.specs.Held.{HasAnswered}
use Rattle.pf_session.proofs.step.take_steps.Given as goal

-- so many steps were taken, and what they add was added
abbrev pub invariant-loop-turn : goal.invariant-loop-turn
invariant-loop-turn l = record {
  answered : HasAnswered (replicate l.turn Step) l.fn.desk l.desk;
  text : l.answer.items ≡ l.fn.answer.items ++ flat_map (step_text l.json l.first) (replies_from l.fn.desk.state (replicate l.turn Step));
}
