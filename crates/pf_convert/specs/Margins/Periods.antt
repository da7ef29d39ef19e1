-- How short the period of a task may be.
use Rattle.std.specs.Prelude.{ℕ, ◌*◌, ◌%◌, ◌≡◌, ◌<◌, ◌≤◌, ◌⊎◌, min, IsTrue, false, Option, None, Some, MatchOption, List, All, Contains}
use Rattle.pf_weight.specs.declared.base.TheConstants.{LARGEST_BASE}
use Rattle.pf_convert.specs.declared.margins.least_period.LeastPeriod.{LeastPeriod}
use Rattle.pf_convert.specs.declared.margins.least_period.LeastPeriod.TheVariants.{NoRoom, OfAll, OfDivisors}
use Rattle.pf_convert.specs.declared.plan.Plan.{Plan}
use Rattle.pf_convert.specs.declared.slotted.Slotted.{Slotted}
use Rattle.pf_convert.specs.Margins.Fitting.{FitOver, task_at, with_task}
use Rattle.pf_convert.specs.Multiples.{NoneOfBoth}

abbrev pub with_period : Slotted → ℕ → Slotted
with_period t period = record t { period = period }

-- there is room for the task at a place with this period in place of its own, over a base that this one divides too
abbrev pub HasRoomForPeriod : ℕ → Plan → ℕ → ℕ → Type 0
HasRoomForPeriod processors plan place period =
    FitOver processors (plan.base * period) (with_task plan place (with_period (task_at plan place) period))

-- there is room for this period, and for none below it
pub record IsLeastPeriod (processors : ℕ) (plan : Plan) (place period : ℕ) : Type 0 where
  pub room : HasRoomForPeriod processors plan place period
  pub least : (n : ℕ) → HasRoomForPeriod processors plan place n → period ≤ n

-- of the divisors of the base there is room for this one, and for none below it
pub record IsLeastDivisor (processors : ℕ) (plan : Plan) (place period : ℕ) : Type 0 where
  pub divides : plan.base % period ≡ 0
  pub room : HasRoomForPeriod processors plan place period
  pub least : (n : ℕ) → plan.base % n ≡ 0 → HasRoomForPeriod processors plan place n → period ≤ n

-- there is room for no divisor of the base
abbrev pub HasNoDivisor : ℕ → Plan → ℕ → Type 0
HasNoDivisor processors plan place = (n : ℕ) → plan.base % n ≡ 0 → HasRoomForPeriod processors plan place n → ⊥

-- there is a base that both divide
pub record HaveBase (base period : ℕ) : Type 0 where
  pub common : ℕ
  pub some : 1 ≤ common
  pub within : common ≤ LARGEST_BASE
  pub first : common % base ≡ 0
  pub second : common % period ≡ 0

-- the base is one that was rounded to, or no base is a multiple of it and of the period
abbrev pub HaveNoBase : Plan → ℕ → Type 0
HaveNoBase plan period = (plan.exact ≡ false) ⊎ NoneOfBoth plan.base period

-- so it is with the least period
pub record KeepsBase (processors : ℕ) (plan : Plan) (place : ℕ) : Type 0 where
  pub least : ℕ
  pub is_least : IsLeastPeriod processors plan place least
  pub keeps : HaveNoBase plan least

-- the least of all periods; where the base is to stay as it is, the least of its divisors
abbrev pub MakesLeastPeriod : ℕ → Plan → ℕ → LeastPeriod → Type 0
MakesLeastPeriod processors plan place NoRoom = (n : ℕ) → HasRoomForPeriod processors plan place n → ⊥
MakesLeastPeriod processors plan place (OfAll period) = IsLeastPeriod processors plan place period × IsTrue plan.exact × HaveBase plan.base period
MakesLeastPeriod processors plan place (OfDivisors period) =
    KeepsBase processors plan place × MatchOption period (HasNoDivisor processors plan place) (IsLeastDivisor processors plan place)

-- the slots of the least period, where there is one
abbrev pub slots_of : LeastPeriod → Option ℕ
slots_of NoRoom = None
slots_of (OfAll period) = Some period
slots_of (OfDivisors period) = period

-- the lesser of the two, where there are two
abbrev pub IsLesser : Option ℕ → ℕ → ℕ → Type 0
IsLesser least number n = MatchOption least (n ≡ number) (λ l. n ≡ min l number)

-- each of these numbers is below that
abbrev pub AllBelow : ℕ → List ℕ → Type 0
AllBelow other numbers = All (λ n. n < other) numbers

-- the least of these numbers that is not below that
pub record IsLeastFrom (other : ℕ) (numbers : List ℕ) (n : ℕ) : Type 0 where
  pub among : Contains numbers n
  pub from : other ≤ n
  pub least : All (λ m. other ≤ m → n ≤ m) numbers
