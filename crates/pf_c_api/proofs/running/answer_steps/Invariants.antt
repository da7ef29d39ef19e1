use Rattle.std.proofs.Common.{replicate}
use Rattle.pf_desk.specs.declared.command.Command.TheVariants.{Step}
use Rattle.pf_desk.specs.Desk.{AnswersAll, IsDesk}
use Rattle.pf_c_api.proofs.running.answer_steps.Given as goal

abbrev pub invariant-loop-turn : goal.invariant-loop-turn
invariant-loop-turn l = record {
  answers : AnswersAll l.caller (replicate l._turn Step) l.fn.desk l.desk;
  desk : IsDesk l.desk;
}
