use Rattle.std.proofs.Common.{◌≡◌, ◌++◌, length}
use Rattle.pf_c_api.specs.Faults.{plan_lines}
use Rattle.pf_c_api.proofs.script_lines.plan_lines.Given as goal

-- what was added, and the lines of the faults that are left, are all
abbrev pub invariant-faults : goal.invariant-faults
invariant-faults l = record { lines : l.text.items ++ plan_lines l.faults.faults ≡ plan_lines l.fn.faults.faults }

abbrev pub decreases-faults : goal.decreases-faults
decreases-faults l = length l.faults.faults
