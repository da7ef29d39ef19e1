-- Periods rounded down to divisors of a base, the load of tasks over a base, and which base is the best.
use Rattle.std.specs.Prelude.{ℕ, zero, suc, ◌*◌, ◌/◌, ◌%◌, ◌≡◌, ◌<◌, ◌≤◌, ◌==◌, ◌⊎◌, if◌then◌else◌, List, All, sum_by}
use Rattle.pf_weight.specs.declared.base.TheConstants.{LARGEST_BASE}
use Rattle.pf_convert.specs.declared.loaded.Loaded.{Loaded}
use Rattle.pf_convert.specs.declared.slotted.Slotted.{Slotted}
use Rattle.pf_convert.specs.Smooth.{IsSevenSmooth}

-- the greatest divisor of a base that is at most the period
unfoldable pub rounded : ℕ → ℕ → ℕ
rounded base zero = zero
rounded base (suc p) = if base % suc p == 0 then suc p else rounded base p

-- no cost is above the period, rounded down to a divisor of the base
abbrev pub Holds : ℕ → List Slotted → Type 0
Holds base tasks = All (λ t. t.cost ≤ rounded base t.period) tasks

-- what the tasks ask for together with periods rounded so, in units of 1/base
abbrev pub load_over : ℕ → List Slotted → ℕ
load_over base tasks = sum_by (λ t. t.cost * (base / rounded base t.period)) tasks

-- it is lower as a part of the base, or the same and the base is no greater
abbrev pub IsNoWorse : Loaded → Loaded → Type 0
IsNoWorse a b = (a.load * b.base < b.load * a.base) ⊎ ((a.load * b.base ≡ b.load * a.base) × (a.base ≤ b.base))

-- of the bases without a prime factor above 7 that hold the tasks, it is the one with the least load as a part of the base,
-- and of several the lowest
pub record IsBestBase (tasks : List Slotted) (best : Loaded) : Type 0 where
  pub smooth : IsSevenSmooth best.base
  pub within : best.base ≤ LARGEST_BASE
  pub holds : Holds best.base tasks
  pub load : best.load ≡ load_over best.base tasks
  pub least : (n : ℕ) → n ≤ LARGEST_BASE → IsSevenSmooth n → Holds n tasks → IsNoWorse best (record { base = n; load = load_over n tasks })

-- none of these bases holds the tasks
abbrev pub HasNoBase : List Slotted → Type 0
HasNoBase tasks = (n : ℕ) → n ≤ LARGEST_BASE → IsSevenSmooth n → Holds n tasks → ⊥
