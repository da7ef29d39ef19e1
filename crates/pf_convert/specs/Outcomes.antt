-- Which of several quanta is the best, and what work the tasks bring.
use Rattle.std.specs.Prelude.{⊤, ℕ, ◌*◌, ◌/◌, ◌^◌, ◌≡◌, ◌<◌, ◌≤◌, ◌⊎◌, Option, None, Some, MatchOption, unwrap_or, List, All, length, slice_index_or as get_or, sum_by}
use Rattle.std.specs.Int.{div_ceil}
use Rattle.pf_scenario.specs.declared.settings.TheConstants.{MOST_PROCESSORS}
use Rattle.pf_convert.specs.declared.outcome.Outcome.{Outcome}
use Rattle.pf_convert.specs.declared.timed.Timed.{Timed}

-- there is a plan that needs no more than the processors, as many as a desk has at most where none are told
abbrev pub Fits : Option ℕ → Outcome → Type 0
Fits processors o = MatchOption o.needed ⊥ (λ n. n ≤ unwrap_or processors MOST_PROCESSORS)

-- with processors told the longer quantum is the better one; else the one that needs fewer, and of those the longer
abbrev pub IsNoWorseQuantum : Option ℕ → Outcome → Outcome → Type 0
IsNoWorseQuantum processors a b =
    MatchOption processors
    ((unwrap_or a.needed 0 < unwrap_or b.needed 0) ⊎ ((unwrap_or a.needed 0 ≡ unwrap_or b.needed 0) × (b.quantum ≤ a.quantum)))
    (λ _. b.quantum ≤ a.quantum)

-- none of them fits
abbrev pub NoneFits : Option ℕ → List Outcome → Type 0
NoneFits processors outcomes = All (λ o. Fits processors o → ⊥) outcomes

-- the one at a place, one without a plan after the last
abbrev pub outcome_at : List Outcome → ℕ → Outcome
outcome_at outcomes i = get_or outcomes i (record { quantum = 0; needed = None; faults = 0 })

-- it fits, and none that fits is better
pub record IsBestQuantum (processors : Option ℕ) (outcomes : List Outcome) (i : ℕ) : Type 0 where
  pub within : i < length outcomes
  pub fits : Fits processors (outcome_at outcomes i)
  pub best : All (λ o. Fits processors o → IsNoWorseQuantum processors (outcome_at outcomes i) o) outcomes

-- of two places it is that of the better one
abbrev pub IsBetterQuantum : Option ℕ → List Outcome → Option ℕ → ℕ → ℕ → Type 0
IsBetterQuantum processors outcomes best next r =
    MatchOption best (r ≡ next)
    (λ i. (IsNoWorseQuantum processors (outcome_at outcomes i) (outcome_at outcomes next) × (r ≡ i))
    ⊎ (IsNoWorseQuantum processors (outcome_at outcomes next) (outcome_at outcomes i) × (r ≡ next)))

-- the first number is lower, or the same and its quantum no shorter
abbrev pub IsLowerOrLonger : ℕ → ℕ → Outcome → Outcome → Type 0
IsLowerOrLonger m n a b = (m < n) ⊎ ((m ≡ n) × (b.quantum ≤ a.quantum))

-- with these processors needed the first is at least as close to a plan that fits: one with a plan is closer than one without,
-- of those with a plan the one that needs fewer, and of the others the one with fewer faults; of equal ones the longer
abbrev pub IsNoFartherWith : Option ℕ → Option ℕ → Outcome → Outcome → Type 0
IsNoFartherWith (Some m) (Some n) a b = IsLowerOrLonger m n a b
IsNoFartherWith (Some m) None a b = ⊤
IsNoFartherWith None (Some n) a b = ⊥
IsNoFartherWith None None a b = IsLowerOrLonger a.faults b.faults a b

abbrev pub IsNoFarther : Outcome → Outcome → Type 0
IsNoFarther a b = IsNoFartherWith a.needed b.needed a b

-- none is closer to a plan that fits
pub record IsClosestQuantum (outcomes : List Outcome) (i : ℕ) : Type 0 where
  pub within : i < length outcomes
  pub closest : All (IsNoFarther (outcome_at outcomes i)) outcomes

-- the quantum whose plan is shown: the best, or the closest one where none fits
abbrev pub IsShownQuantum : Option ℕ → List Outcome → ℕ → Type 0
IsShownQuantum processors outcomes i = IsBestQuantum processors outcomes i ⊎ (NoneFits processors outcomes × IsClosestQuantum outcomes i)

-- the parts of a processor that the tasks' work takes, each in billionths and rounded up
abbrev pub billionths_of : List Timed → ℕ
billionths_of tasks = sum_by (λ t. div_ceil (t.work * 10 ^ 9) t.every) tasks

-- the same, each rounded down
abbrev pub least_billionths_of : List Timed → ℕ
least_billionths_of tasks = sum_by (λ t. t.work * 10 ^ 9 / t.every) tasks
