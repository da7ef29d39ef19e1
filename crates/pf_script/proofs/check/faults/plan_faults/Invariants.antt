use Rattle.std.proofs.Common.{◌≡◌, ◌≤◌, ◌+◌, fold, length}
use Rattle.pf_script.specs.PlanCheck.Checked.{faults}
use Rattle.pf_text.specs.Rows.Rows.{rows}
use Rattle.pf_script.specs.Messages.Lines.{plan_messages}
use Rattle.pf_script.specs.Check.Lines.{after_fault, no_lines}
use Rattle.pf_script.proofs.check.faults.plan_faults.Given as goal

-- with what is left the lines are those of all faults
abbrev pub invariant-faults : goal.invariant-faults
invariant-faults l = record {
  lines : fold (after_fault l.faults.records) l.lines (plan_messages l.telling l.faults.faults)
      ≡ fold (after_fault l.faults.records) no_lines (plan_messages l.fn.telling (faults (rows l.fn.script)));
  records : l.faults.records ≡ length (rows l.fn.script).rows;
  lacking : l.lines.lacking + length l.faults.faults ≤ l.faults.records + 1;
  others : l.lines.others + length l.faults.faults ≤ l.faults.records + 1;
}

abbrev pub decreases-faults : goal.decreases-faults
decreases-faults l = length l.faults.faults
