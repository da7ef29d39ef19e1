use Rattle.std.proofs.Common.{◌≡◌, ◌-◌}
use Rattle.pf_courses.specs.Built.{windows_by}
use Rattle.pf_courses.proofs.windows.windows_of.Given as goal

abbrev pub invariant-loop-i : goal.invariant-loop-i
invariant-loop-i l = l.windows.items ≡ windows_by l.task l.ran l.on l.delays l.end (l.i - 1)
