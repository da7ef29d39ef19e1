-- The periods near one that does not divide the base, and the least base that both divide.
use Rattle.std.specs.Prelude.{ℕ, zero, suc, ◌+◌, ◌*◌, ◌/◌, ◌%◌, ◌==◌, ◌&&◌, Bool, nat_le, if◌then◌else◌, List, [], ◌++◌, codes}
use Rattle.std.specs.Fmt.{decimal}
use Rattle.std.specs.Int.{div_ceil}
use Rattle.pf_weight.specs.declared.base.TheConstants.{LARGEST_BASE}

-- k divides a, and both
abbrev pub divides : ℕ → ℕ → Bool
divides a k = a % k == 0

abbrev pub divides_both : ℕ → ℕ → ℕ → Bool
divides_both a b k = divides a k && divides b k

-- the greatest number below n that passes the test; 0 where none does
abbrev pub last_below : (ℕ → Bool) → ℕ → ℕ
last_below test zero = 0
last_below test (suc k) = if test k then k else last_below test k

-- the greatest period of the base below this one
unfoldable pub period_below : ℕ → ℕ → ℕ
period_below base period = last_below (divides base) period

-- the least period above it, 0 where there is none: the product of two periods is the base, and the other one is the greatest below
-- base / period
unfoldable pub period_above : ℕ → ℕ → ℕ
period_above base period = base / last_below (divides base) (div_ceil base period)

-- the least common multiple of both, by their greatest common divisor
unfoldable pub common_base : ℕ → ℕ → ℕ
common_base base period = base / last_below (divides_both base period) (base + 1) * period

-- the periods that the base has, and the base that has both, if it may be one
unfoldable pub below_text : ℕ → ℕ → List ℕ
below_text base period = codes "a period of " ++ decimal (period_below base period)

unfoldable pub above_text : ℕ → ℕ → List ℕ
above_text base period = if period_above base period == 0 then [] else codes " or " ++ decimal (period_above base period)

unfoldable pub base_text : ℕ → ℕ → List ℕ
base_text base period =
    if nat_le (common_base base period) LARGEST_BASE then codes ", or the base " ++ decimal (common_base base period) else []

abbrev pub period_hint : ℕ → ℕ → List ℕ
period_hint base period = below_text base period ++ above_text base period ++ base_text base period
