-- After how many slots a schedule may repeat.
use Rattle.std.specs.Prelude.{◌≡◌, ℕ, ◌*◌, ◌%◌, ◌≤◌, ◌==◌, Bool, true, List, find}
use Rattle.std.specs.Int.{◌∣◌}
use Rattle.std.specs.List.{list_all, range_with_len}
use Rattle.std.specs.Option.{unwrap_or}
use Rattle.pf_weight.specs.Share.{Share}
use Rattle.pf_run.specs.Inside.{Joined}

-- a task of this weight is owed whole quanta in so many slots
abbrev pub is_owed_whole : ℕ → Share → Bool
is_owed_whole span w = w.cost * span % w.period == 0

-- so is each of these tasks
abbrev pub are_owed_whole : List Joined → ℕ → Bool
are_owed_whole tasks span = list_all (λ j. is_owed_whole span j.weight) tasks

-- the least number of slots, from 1, in which each task is owed whole quanta; the base is such a number
abbrev pub least_span : ℕ → List Joined → ℕ
least_span base tasks = unwrap_or (find (are_owed_whole tasks) (range_with_len 1 base)) base

-- the least multiple of a number of slots in which a task of this weight is owed whole quanta
pub record IsLeastMultiple (span : ℕ) (w : Share) (multiple : ℕ) : Type 0 where
  pub some : 1 ≤ multiple
  pub of_span : span ∣ multiple
  pub whole : is_owed_whole multiple w ≡ true
  pub least : (k : ℕ) → span ∣ k → is_owed_whole k w ≡ true → multiple ∣ k
