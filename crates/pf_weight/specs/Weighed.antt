use Rattle.std.specs.Prelude.{ℕ, ◌%◌, ◌==◌, nat_lt, if◌then◌else◌, Option, Some, None, Result, Ok, Err}
use Rattle.pf_weight.specs.declared.fault.WeightFault.{WeightFault}
use Rattle.pf_weight.specs.declared.fault.WeightFault.TheVariants.{ZeroCost, CostAbovePeriod, PeriodNotInBase}
use Rattle.pf_weight.specs.Share.{Share, share_of}

-- why a cost and a period are no weight over the base: the first test that fails
abbrev pub weight_fault : ℕ → ℕ → ℕ → Option WeightFault
weight_fault base cost period =
    if cost == 0 then Some ZeroCost
    else if nat_lt period cost then Some CostAbovePeriod
    else if base % period == 0 then None
    else Some PeriodNotInBase

-- the share, or the fault where there is one
abbrev pub ok_unless : Option WeightFault → Share → Result Share WeightFault
ok_unless None w = Ok w
ok_unless (Some fault) w = Err fault

abbrev pub share_or_fault : ℕ → ℕ → ℕ → Result Share WeightFault
share_or_fault base cost period = ok_unless (weight_fault base cost period) (share_of base cost period)
