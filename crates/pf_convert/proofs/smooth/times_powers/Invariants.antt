use Rattle.std.proofs.Common.{take}
use Rattle.pf_convert.specs.Smooth.{ArePowered}
use Rattle.pf_convert.proofs.smooth.times_powers.Given as goal

abbrev pub invariant-loop-number : goal.invariant-loop-number
invariant-loop-number l = ArePowered (take l.number-index l.numbers) l.factor l.products.items
