use Rattle.std.proofs.Common.{◌-◌, ◌≤◌, length}
use Rattle.pf_convert.specs.Stretches.{IsStretch}
use Rattle.pf_convert.proofs.Rounding.{IsLoadSoFar}
use Rattle.pf_convert.proofs.best_base.load_over.Given as goal

abbrev pub invariant-stretches : goal.invariant-stretches
invariant-stretches l = IsStretch l.divided l.stretch × IsLoadSoFar l.divided.base l.tasks l.done l.load × (l.done ≤ length l.tasks)

abbrev pub decreases-stretches : goal.decreases-stretches
decreases-stretches l = length l.tasks - l.done
