use Rattle.std.proofs.Common.{◌≡◌}
use Rattle.pf_drill.proofs.planner.step_as.Given as goal

-- nothing was entered
abbrev pub invariant-loop : goal.invariant-loop
invariant-loop g l = l.planner ≡ record l.fn.planner { loads = l.planner.loads }
