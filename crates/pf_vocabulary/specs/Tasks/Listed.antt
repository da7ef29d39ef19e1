-- Which tasks a list of ranges has.
use Rattle.std.specs.Prelude.{ℕ, Bool, ◌&&◌, nat_le, List, [], ◌∷◌}
use Rattle.std.specs.List.{list_any}
use Rattle.pf_weight.specs.declared.task.TheConstants.{LARGEST_TASK}
use Rattle.pf_vocabulary.specs.declared.tasks.task_range.TaskRange.{TaskRange}

abbrev pub is_between : ℕ → TaskRange → Bool
is_between task range = nat_le range.first task && nat_le task range.last

-- one of the ranges has the task
abbrev pub is_listed : List TaskRange → ℕ → Bool
is_listed ranges task = list_any (is_between task) ranges

abbrev pub all_tasks : List TaskRange
all_tasks = record { first = 1; last = LARGEST_TASK } ∷ []
