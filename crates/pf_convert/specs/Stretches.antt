-- The periods that are rounded down to one divisor of a base.
use Rattle.std.specs.Prelude.{ℕ, ◌/◌, ◌≡◌, ◌<◌, ◌≤◌, length, slice_index}
use Rattle.pf_convert.specs.declared.divided.Divided.{Divided}
use Rattle.pf_convert.specs.declared.stretch.Stretch.{Stretch}
use Rattle.pf_convert.specs.Rounding.{rounded}

-- each period from the divisor up to the end is rounded down to the divisor
pub record IsStretch (d : Divided) (s : Stretch) : Type 0 where
  pub there : s.index < length d.divisors.items
  pub at : slice_index d.divisors.items s.index ≡ s.divisor
  pub some : 1 ≤ s.divisor
  pub share : s.share ≡ d.base / s.divisor
  pub rounds : (p : ℕ) → s.divisor ≤ p → p < s.end → rounded d.base p ≡ s.divisor
