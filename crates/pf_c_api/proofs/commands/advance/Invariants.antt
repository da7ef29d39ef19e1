use Rattle.std.proofs.Common.{◌≡◌, ◌≤◌, ◌+◌, ◌-◌, replicate}
use Rattle.pf_desk.specs.declared.command.Command.TheVariants.{Step}
use Rattle.pf_desk.specs.Desk.{IsDesk, AnswersAll}
use Rattle.pf_c_api.proofs.commands.advance.Given as goal

abbrev pub invariant-loop-taken : goal.invariant-loop-taken
invariant-loop-taken l = record {
  within : l.taken ≤ l.count;
  now : l.desk.state.now ≡ l.fn.desk.state.now + l.taken;
  answers : AnswersAll l.caller (replicate l.taken Step) l.fn.desk l.desk;
  desk : IsDesk l.desk;
}

abbrev pub decreases-loop-taken : goal.decreases-loop-taken
decreases-loop-taken l = l.count - l.taken
