-- Common multiples of periods, up to the greatest base.
use Rattle.std.specs.Prelude.{ℕ, ◌%◌, ◌≡◌, ◌≤◌, List, All}
use Rattle.pf_weight.specs.declared.base.TheConstants.{LARGEST_BASE}
use Rattle.pf_convert.specs.declared.slotted.Slotted.{Slotted}

-- a base that both divide, and no lower one is so
pub record IsLeastOfBoth (a b l : ℕ) : Type 0 where
  pub some : 1 ≤ l
  pub within : l ≤ LARGEST_BASE
  pub first : l % a ≡ 0
  pub second : l % b ≡ 0
  pub least : (n : ℕ) → 1 ≤ n → n % a ≡ 0 → n % b ≡ 0 → l ≤ n

-- there is no base that both divide
abbrev pub NoneOfBoth : ℕ → ℕ → Type 0
NoneOfBoth a b = (n : ℕ) → 1 ≤ n → n ≤ LARGEST_BASE → n % a ≡ 0 → n % b ≡ 0 → ⊥

-- the period of each of these tasks divides it
abbrev pub IsCommon : List Slotted → ℕ → Type 0
IsCommon tasks n = All (λ t. n % t.period ≡ 0) tasks

-- a base that all their periods divide, and no lower one is so
pub record IsLeastCommon (tasks : List Slotted) (l : ℕ) : Type 0 where
  pub some : 1 ≤ l
  pub within : l ≤ LARGEST_BASE
  pub common : IsCommon tasks l
  pub least : (n : ℕ) → 1 ≤ n → IsCommon tasks n → l ≤ n

-- there is no base that all their periods divide
abbrev pub HasNoCommon : List Slotted → Type 0
HasNoCommon tasks = (n : ℕ) → 1 ≤ n → n ≤ LARGEST_BASE → IsCommon tasks n → ⊥
