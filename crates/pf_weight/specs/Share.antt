-- Weights: what a task asks for, as cost quanta in each period, over a base that every period divides.
use Rattle.std.specs.Prelude.{ℕ, Bool, ◌*◌, ◌/◌, ◌≤◌, nat_le}
use Rattle.pf_weight.specs.declared.base.TheConstants.{LARGEST_BASE}

-- a task's share of a processor: cost quanta in each period slots, which is `units` in 1/h
pub record Share : Type 0 where
  pub cost : ℕ
  pub period : ℕ
  pub units : ℕ

-- the share of a cost and a period over the base h
abbrev pub share_of : ℕ → ℕ → ℕ → Share
share_of base cost period = record { cost = cost; period = period; units = cost * (base / period) }

-- at least half of a processor
abbrev pub is_heavy : Share → Bool
is_heavy w = nat_le w.period (2 * w.cost)

-- what holds of every base: it is 1 to the greatest one
pub record IsBase (base : ℕ) : Type 0 where
  pub some : 1 ≤ base
  pub within : base ≤ LARGEST_BASE

-- what holds of every weight: its cost is 1 to its period, and neither its period nor its units pass the greatest base
pub record IsShare (w : Share) : Type 0 where
  pub some : 1 ≤ w.cost
  pub within : w.cost ≤ w.period
  pub short : w.period ≤ LARGEST_BASE
  pub units_some : 1 ≤ w.units
  pub units_within : w.units ≤ LARGEST_BASE
