-- The table of a plan: its tasks in time and in slots.
use Rattle.std.specs.Prelude.{ℕ, ◌+◌, ◌-◌, ◌*◌, Bool, true, false, is_some, List, [], ◌∷◌, ◌++◌, codes}
use Rattle.std.specs.List.{list_any}
use Rattle.std.specs.Fmt.{decimal}
use Rattle.pf_text.specs.Columns.Decimals.{up}
use Rattle.pf_convert.specs.declared.slotted.Slotted.{Slotted}
use Rattle.pf_convert.specs.declared.timed.Timed.{Timed}
use Rattle.pf_vocabulary.specs.declared.names.unit.Unit.{Unit}
use Rattle.pf_convert.specs.declared.list.listed.Listed.{Listed}
use Rattle.pf_convert.specs.List.Times.{time_text}
use Rattle.pf_convert.specs.Slots.{due_of}
use Rattle.pf_convert.specs.List.Parts.{joined}

-- a task has a deadline
abbrev pub has_deadline : List Listed → Bool
has_deadline tasks = list_any (λ task. is_some task.times.deadline) tasks

-- the cell of what jobs are due after, where it is shown
abbrev pub due_cells : Bool → List ℕ → List (List ℕ)
due_cells false cell = []
due_cells true cell = cell ∷ []

abbrev pub slot_headings : List (List ℕ)
slot_headings =
    codes "work/every" ∷ codes "weight" ∷ codes "cost/period" ∷ codes "added" ∷ codes "response" ∷ codes "from any arrival" ∷ []

abbrev pub headings : Bool → List (List ℕ)
headings dues = (codes "task" ∷ codes "name" ∷ codes "work" ∷ codes "every" ∷ []) ++ due_cells dues (codes "deadline") ++ slot_headings

-- the cells of a task's times
abbrev pub time_cells : Bool → Unit → ℕ → Listed → List (List ℕ)
time_cells dues unit number task =
    (decimal number ∷ task.name ∷ time_text unit task.times.work ∷ time_text unit task.times.every ∷ []) ++ due_cells dues (time_text unit (due_of task.times))
    ++ up task.times.work task.times.every 4 ∷ []

-- what rounding and switches cost a task
abbrev pub added_text : Timed → Slotted → List ℕ
added_text t s = up (s.cost * t.every - t.work * s.period) (s.period * t.every) 4

-- the cells of its slots
abbrev pub slot_cells : Unit → ℕ → Timed → Slotted → List (List ℕ)
slot_cells unit quantum t s =
    joined (decimal s.cost ∷ codes "/" ∷ decimal s.period ∷ []) ∷ up s.cost s.period 4 ∷ added_text t s ∷ time_text unit (s.period * quantum)
    ∷ time_text unit ((s.period + 1) * quantum) ∷ []

abbrev pub task_row : Bool → Unit → ℕ → ℕ → Listed → Slotted → List (List ℕ)
task_row dues unit quantum number task s = time_cells dues unit number task ++ slot_cells unit quantum task.times s

-- the rows of tasks and their slots, numbered from a number on
unfoldable pub report_rows : Bool → Unit → ℕ → ℕ → List Listed → List Slotted → List (List (List ℕ))
report_rows dues unit quantum number [] slots = []
report_rows dues unit quantum number (task ∷ tasks) [] = []
report_rows dues unit quantum number (task ∷ tasks) (s ∷ slots) = task_row dues unit quantum number task s ∷ report_rows dues unit quantum (number + 1) tasks slots
