use Rattle.std.proofs.Common.{◌≡◌, ◌++◌, replicate}
use Rattle.pf_desk.specs.declared.command.Command.TheVariants.{Step}
use Rattle.pf_drill.specs.Rounds.{IsInStep, commands_given}
use Rattle.pf_drill.proofs.lines.take_steps.Given as goal

-- so many steps were given
abbrev pub invariant-loop-turn : goal.invariant-loop-turn
invariant-loop-turn g l = record {
  step : IsInStep g.N.Naming.board.id g.N.Naming.board.terms l.planner;
  commands : commands_given l.planner ≡ commands_given l.fn.planner ++ replicate l._turn Step;
}
