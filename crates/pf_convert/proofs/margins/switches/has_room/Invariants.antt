use Rattle.std.proofs.Common.{◌-◌}
use Rattle.pf_convert.specs.Margins.Switches.{with_costs}
use Rattle.pf_convert.proofs.Rounding.{IsLoadSoFar}
use Rattle.pf_convert.proofs.margins.switches.has_room.Given as goal

abbrev pub invariant-loop-place : goal.invariant-loop-place
invariant-loop-place l = IsLoadSoFar l.plan.base (with_costs (l.quantum - l.switch) l.times l.plan.tasks.items) l.place l.load
