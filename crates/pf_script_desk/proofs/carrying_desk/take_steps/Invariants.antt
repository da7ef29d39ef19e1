use Rattle.std.proofs.Common.{replicate}
use Rattle.pf_desk.specs.declared.command.Command.TheVariants.{Step}
use Rattle.pf_desk.specs.Desk.{AnswersAll}
use Rattle.pf_script_desk.specs.Carrying.{script_caller}
use Rattle.pf_script_desk.proofs.carrying_desk.take_steps.Given as goal

-- so many steps were taken
abbrev pub invariant-loop-turn : goal.invariant-loop-turn
invariant-loop-turn l = AnswersAll script_caller (replicate l._turn Step) l.fn.desk l.desk
