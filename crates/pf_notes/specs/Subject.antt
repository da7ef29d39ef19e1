-- What a task is called in a sentence.
use Rattle.std.specs.Prelude.{ℕ, Option, None, Some, List, ◌++◌, codes}
use Rattle.std.specs.Fmt.{decimal}

-- its name, or `task T`
abbrev pub task_text : Option (List ℕ) → ℕ → List ℕ
task_text None task = codes "task " ++ decimal task
task_text (Some name) task = name

-- its name, or its number
abbrev pub short_text : Option (List ℕ) → ℕ → List ℕ
short_text None task = decimal task
short_text (Some name) task = name

-- a subtask of it: `T/I`
abbrev pub subtask_text : Option (List ℕ) → ℕ → ℕ → List ℕ
subtask_text name task i = short_text name task ++ codes "/" ++ decimal i
