-- Where the picks of a task are looked for.
use Rattle.std.specs.Prelude.{◌≡◌, ℕ, ◌<◌, ◌≤◌, ◌%◌, ◌==◌, Bool, true, Option, Some, None, List, length, get_or, set}
use Rattle.std.specs.List.{All, position}
use Rattle.pf_order.specs.declared.pick.Pick.{Pick}
use Rattle.pf_place.specs.Occupancy.{is_seated}

-- where the first pick of the task stands
abbrev pub number_of : List Pick → ℕ → Option ℕ
number_of picks task = position (λ p. p.task == task) picks

-- tasks fall into 512 buckets, and no pick stands before the start of its task's bucket
pub record AreStarts (starts : List ℕ) (picks : List Pick) : Type 0 where
  pub buckets : length starts ≡ 512
  pub within : All (λ start. start ≤ length picks) starts
  pub before : (k : ℕ) (d : Pick) → k < length picks → get_or starts ((get_or picks k d).task % 512) 0 ≤ k

-- the marks with that of the k-th pick too, where there is a k
abbrev pub with_mark : List Bool → Option ℕ → List Bool
with_mark marks None = marks
with_mark marks (Some k) = set marks k true

-- the mark of a task's first pick tells whether the task sat on one of these places
abbrev pub AreMarked : List Bool → List (Option Pick) → List Pick → Type 0
AreMarked marks places picks =
    (task k : ℕ) (d : Bool) → number_of picks task ≡ Some k → k < length marks → get_or marks k d ≡ is_seated places task
