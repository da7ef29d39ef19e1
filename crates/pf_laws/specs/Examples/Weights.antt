-- Worked examples of weights.
use Rattle.std.specs.Prelude.{◌≡◌, ℕ, Bool, true, false, Ok, Err}
use Rattle.pf_weight.specs.Share.{IsBase, share_of, is_heavy}
use Rattle.pf_weight.specs.Weighed.{share_or_fault}
use Rattle.pf_weight.specs.declared.fault.WeightFault.TheVariants.{ZeroCost, CostAbovePeriod, PeriodNotInBase}

-- over the base 462 the cost and the period are a weight that comes to these units
pub record IsWeighed (cost period units : ℕ) (heavy : Bool) : Type 0 where
  pub weight : share_or_fault 462 cost period ≡ Ok (record { cost = cost; period = period; units = units })
  pub half : is_heavy (share_of 462 cost period) ≡ heavy

pub record WorkedWeights : Type 0 where
  -- 0 is no base, nor is a number above 2 ^ 30
  pub no_base : ¬ (IsBase 0)
  pub base_above : ¬ (IsBase 1073741825)
  -- 2 ^ 30 is one
  pub base_within : IsBase 1073741824
  -- 2/3 comes to 308 units and is heavy
  pub two_thirds : IsWeighed 2 3 308 true
  -- 1/2 comes to 231 units and is heavy
  pub half : IsWeighed 1 2 231 true
  -- 3/7 comes to 198 units and is light
  pub three_sevenths : IsWeighed 3 7 198 false
  -- 1/1 comes to all 462 units
  pub whole : IsWeighed 1 1 462 true
  -- 0/5 costs nothing
  pub free : share_or_fault 462 0 5 ≡ Err ZeroCost
  -- 3/0 costs more than its period
  pub dear : share_or_fault 462 3 0 ≡ Err CostAbovePeriod
  -- 5 doesn't divide 462
  pub uneven : share_or_fault 462 1 5 ≡ Err PeriodNotInBase
