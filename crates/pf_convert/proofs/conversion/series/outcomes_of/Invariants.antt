use Rattle.std.proofs.Common.{◌≡◌, map, take}
use Rattle.pf_convert.specs.Conversion.Series.{outcome_of}
use Rattle.pf_convert.proofs.conversion.series.outcomes_of.Given as goal

abbrev pub invariant-loop-planned : goal.invariant-loop-planned
invariant-loop-planned l = l.outcomes.items ≡ map outcome_of (take l.planned-index l.all)
