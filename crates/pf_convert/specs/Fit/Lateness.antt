-- Which tasks run early, may be late where their jobs come at any time, and drift from them.
use Rattle.std.specs.List.{count_by}
use Rattle.std.specs.Prelude.{ℕ, ◌*◌, Bool, nat_lt, if◌then◌else◌, Option, None, Some, List, [], ◌∷◌}
use Rattle.pf_convert.specs.declared.fit.shown.Shown.{Shown}
use Rattle.pf_convert.specs.declared.fit.shown_task.ShownTask.{ShownTask}
use Rattle.pf_convert.specs.Fit.Exactness.{is_drifting}
use Rattle.pf_convert.specs.Fit.Shown.{any_response_of}
use Rattle.pf_convert.specs.Slots.{due_of}

-- its quanta may run before its release
abbrev pub is_early : ShownTask → Bool
is_early t = nat_lt 0 t.slots.early

-- how many of these are so
unfoldable pub early_count : List ShownTask → ℕ
early_count tasks = count_by is_early tasks

-- a job of it may be done later than it is due
abbrev pub is_late : Shown → ShownTask → Bool
is_late s t = nat_lt (due_of t.times) (any_response_of s t)

-- how many of these are so
unfoldable pub late_count : Shown → List ShownTask → ℕ
late_count s tasks = count_by (is_late s) tasks

-- how many of these have windows that drift from their jobs
unfoldable pub drifting_count : ℕ → List ShownTask → ℕ
drifting_count quantum tasks = count_by (is_drifting quantum) tasks

-- the first of some tasks whose windows drift from their jobs
unfoldable pub first_drifting : ℕ → List ShownTask → Option ShownTask
first_drifting quantum [] = None
first_drifting quantum (t ∷ tasks) = if is_drifting quantum t then Some t else first_drifting quantum tasks

-- of two tasks the one that takes more of the time within which it is due; of equals the first
abbrev pub later : Shown → ShownTask → ShownTask → ShownTask
later s a b = if nat_lt (any_response_of s a * due_of b.times) (any_response_of s b * due_of a.times) then b else a

-- of a task and others the one that takes most of it, of equals the first
unfoldable pub latest_from : Shown → ShownTask → List ShownTask → ShownTask
latest_from s t [] = t
latest_from s t (next ∷ tasks) = latest_from s (later s t next) tasks
