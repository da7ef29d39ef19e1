use Rattle.std.proofs.Common.{◌≡◌, ◌++◌, length}
use Rattle.pf_desk.specs.Desk.{Shown, AnswersAll}
use Rattle.pf_script_desk.specs.Asked.{commands_in}
use Rattle.pf_script_desk.specs.Carrying.{script_caller}
use Rattle.pf_script_run.proofs.carry.carry_lines.Given as goal

-- a desk that has answered what waits and what is left has answered all commands
abbrev pub invariant-lines : goal.invariant-lines
invariant-lines l = record {
  answers : (after : Shown) → AnswersAll script_caller (l.desk.waiting ++ commands_in l.lines.lines) l.desk.desk after
      → AnswersAll script_caller (l.fn.desk.waiting ++ commands_in l.fn.lines.lines) l.fn.desk.desk after;
  fault : l.lines.fault ≡ l.fn.lines.fault;
}

abbrev pub decreases-lines : goal.decreases-lines
decreases-lines l = length l.lines.lines
