-- How a roster keeps its tasks.
use Rattle.std.specs.Prelude.{◌≡◌, ◌≢◌, ℕ, ◌+◌, ◌<◌, ◌≤◌, All, AllPairs, List, length, slice_index_or}
use Rattle.pf_weight.specs.declared.task.TheConstants.{LARGEST_TASK}
use Rattle.pf_collections.specs.Table.Grown.{Grown, value_of, size_of}
use Rattle.pf_engine.specs.Fits.{KeptTask}

-- at its number, the table has where each of the first n tasks stands, and no two are of one number
pub record IsListedTo (n : ℕ) (places : Grown ℕ) (tasks : List KeptTask) : Type 0 where
  pub few : size_of places ≤ LARGEST_TASK + 1
  pub numbers : All (λ k. k.task < size_of places) tasks
  pub apart : AllPairs (λ x y. x.task ≢ y.task) tasks
  pub listed : (k : ℕ) (d : KeptTask) → k < length tasks → k < n → value_of places (slice_index_or tasks k d).task ≡ k

-- it has where each of them stands
pub record IsListed (places : Grown ℕ) (tasks : List KeptTask) : Type 0 where
  pub few : size_of places ≤ LARGEST_TASK + 1
  pub numbers : All (λ k. k.task < size_of places) tasks
  pub listed : (k : ℕ) (d : KeptTask) → k < length tasks → value_of places (slice_index_or tasks k d).task ≡ k

-- no task is of this number
abbrev pub HasNoTask : ℕ → List KeptTask → Type 0
HasNoTask task tasks = All (λ k. k.task ≢ task) tasks

-- the one task of this number stands at this place
pub record IsOnlyAt (task : ℕ) (tasks : List KeptTask) (place : ℕ) : Type 0 where
  pub within : place < length tasks
  pub here : (d : KeptTask) → (slice_index_or tasks place d).task ≡ task
  pub alone : (k : ℕ) (d : KeptTask) → k < length tasks → k ≢ place → (slice_index_or tasks k d).task ≢ task
