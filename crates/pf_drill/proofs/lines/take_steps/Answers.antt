use Rattle.std.proofs.Common.{◌++◌, ◌∷◌, [], ap, ◌∙◌, append_assoc, replicate}
use Rattle.std.proofs.lemmas.List.{replicate_more}
use Rattle.pf_desk.specs.declared.command.Command.TheVariants.{Step}
use Rattle.pf_drill.specs.Rounds.{commands_given}
use Rattle.pf_drill.proofs.lines.take_steps.Goals as goal

pub loop-turn-preserved : goal.loop-turn-preserved
loop-turn-preserved g c = record {
  step = c.in-Ok.ensures.step;
  commands = c.in-Ok.ensures.commands
      ∙ (ap (λ l. l ++ Step ∷ []) c.loop-turn.invariant.commands
      ∙ (append_assoc (commands_given c.args.planner.now) (replicate c.loop-turn._turn Step) (Step ∷ [])
      ∙ ap (λ l. commands_given c.args.planner.now ++ l) (replicate_more c.loop-turn._turn Step)));
}
