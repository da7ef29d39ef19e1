use Rattle.std.proofs.Common.{◌+◌, ◌-◌}
use Rattle.pf_weight.specs.declared.base.TheConstants.{LARGEST_BASE}
use Rattle.pf_convert.proofs.Powers.{ArePowersSoFar}
use Rattle.pf_convert.proofs.smooth.powers_of.Given as goal

abbrev pub invariant-powers : goal.invariant-powers
invariant-powers l = ArePowersSoFar l.number l.factor l.power l.powers.items

abbrev pub decreases-powers : goal.decreases-powers
decreases-powers l = LARGEST_BASE + 1 - l.power
