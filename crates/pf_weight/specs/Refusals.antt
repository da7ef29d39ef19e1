-- What the faults of a weight are called: their numbers and names in the table of refusals.
use Rattle.std.specs.Prelude.{ℕ, List, codes}
use Rattle.pf_weight.specs.declared.fault.WeightFault.{WeightFault}
use Rattle.pf_weight.specs.declared.fault.WeightFault.TheVariants.{ZeroCost, CostAbovePeriod, PeriodNotInBase}

abbrev pub weight_fault_code : WeightFault → ℕ
weight_fault_code ZeroCost = 2
weight_fault_code CostAbovePeriod = 3
weight_fault_code PeriodNotInBase = 4

abbrev pub weight_fault_name : WeightFault → List ℕ
weight_fault_name ZeroCost = codes "ZeroCost"
weight_fault_name CostAbovePeriod = codes "CostAbovePeriod"
weight_fault_name PeriodNotInBase = codes "PeriodNotInBase"
