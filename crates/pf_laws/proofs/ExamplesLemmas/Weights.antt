-- The worked examples of weights, computed.
use Rattle.std.proofs.Common.{refl, arith}
use Rattle.pf_weight.specs.Share.{IsBase}
use Rattle.pf_laws.specs.Examples.Weights.{WorkedWeights}

pub worked_weights : WorkedWeights
worked_weights = record {
  no_base = λ (base : IsBase 0). omega (arith, base.some);
  base_above = λ (base : IsBase 1073741825). omega (arith, base.within);
  base_within = record { some = omega arith; within = omega arith };
  two_thirds = record { weight = refl; half = refl };
  half = record { weight = refl; half = refl };
  three_sevenths = record { weight = refl; half = refl };
  whole = record { weight = refl; half = refl };
  free = refl;
  dear = refl;
  uneven = refl;
}
