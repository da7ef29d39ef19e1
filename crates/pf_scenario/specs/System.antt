-- What a scenario is set in.
use Rattle.std.specs.Prelude.{ℕ, ◌≤◌, ◌⊎◌, ◌≡◌}
use Rattle.pf_weight.specs.Share.{IsBase}
use Rattle.pf_scenario.specs.declared.settings.TheConstants.{MOST_PROCESSORS, LARGEST_CAP, NEAR_HORIZON, WIDE_HORIZON}

-- the processors m, the base h, the cap on the load in 1/h, and the horizon: slots are 0 to the horizon less one
pub record System : Type 0 where
  pub processors : ℕ
  pub base : ℕ
  pub cap : ℕ
  pub horizon : ℕ

-- m processors, the base h and the cap `most` are within their limits
pub record IsInLimits (m h most : ℕ) : Type 0 where
  pub processors_some : 1 ≤ m
  pub processors_within : m ≤ MOST_PROCESSORS
  pub base : IsBase h
  pub cap_some : 1 ≤ most
  pub cap_within : most ≤ LARGEST_CAP

-- the horizon of ordinary settings, and of wide ones
abbrev pub near_horizon : ℕ
near_horizon = NEAR_HORIZON

abbrev pub wide_horizon : ℕ
wide_horizon = WIDE_HORIZON

-- what holds of all settings
pub record IsSystem (s : System) : Type 0 where
  pub limits : IsInLimits s.processors s.base s.cap
  pub horizon : (s.horizon ≡ near_horizon) ⊎ (s.horizon ≡ wide_horizon)
