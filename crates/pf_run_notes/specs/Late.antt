-- The tasks that missed windows, in the order of their first ones.
use Rattle.std.specs.Prelude.{◌≡◌, ℕ, ◌==◌, Bool, if◌then◌else◌, List, [], ◌∷◌, ◌++◌, count_by, fold}
use Rattle.std.specs.List.{list_any}
use Rattle.pf_collections.specs.Table.Grown.{Grown, value_of}
use Rattle.pf_tally.specs.declared.miss.Miss.{Miss}

abbrev pub is_of_task : ℕ → Miss → Bool
is_of_task task miss = miss.task == task

-- how many of these windows are the task's
abbrev pub count_of_task : ℕ → List Miss → ℕ
count_of_task task misses = count_by (is_of_task task) misses

-- the first windows and one more, where none of them is of its task
abbrev pub with_first : List Miss → Miss → List Miss
with_first firsts miss = if list_any (is_of_task miss.task) firsts then firsts else firsts ++ miss ∷ []

-- of each task its first window among these, in their order
abbrev pub firsts_of : List Miss → List Miss
firsts_of misses = fold with_first [] misses

-- the first windows of the tasks and, by task, how many there are, of these windows
pub record AreLate (misses firsts : List Miss) (counts : Grown ℕ) : Type 0 where
  pub of_tasks : firsts ≡ firsts_of misses
  pub each : (task : ℕ) → value_of counts task ≡ count_of_task task misses
