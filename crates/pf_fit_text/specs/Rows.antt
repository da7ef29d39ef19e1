-- The rows of a fit's table.
use Rattle.std.specs.Prelude.{ℕ, ◌+◌, Bool, if◌then◌else◌, Option, None, List, [], ◌∷◌, ◌++◌, codes}
use Rattle.std.specs.Fmt.{decimal}
use Rattle.std.specs.List.{slice_get}
use Rattle.std.specs.Option.{is_some, unwrap_or}
use Rattle.pf_vocabulary.specs.declared.names.named.Named.{Named}
use Rattle.pf_vocabulary.specs.declared.names.slot_length.SlotLength.{SlotLength}
use Rattle.pf_text.specs.Columns.Decimals.{up}
use Rattle.pf_tally.specs.declared.figures.Figures.{Figures}
use Rattle.pf_fit_text.specs.Cells.{grow_cell, is_named, lag_cell, name_cells, rate_cell, ratio_cell, response_cell, time_cells}

-- a heading, where its column is there
abbrev pub heading_if : Bool → List ℕ → List (List ℕ)
heading_if there heading = if there then heading ∷ [] else []

abbrev pub heading_row : Bool → Bool → List (List ℕ)
heading_row named timed =
    codes "task" ∷ [] ++ heading_if named (codes "name") ++ codes "weight" ∷ [] ++ codes "utilization" ∷ [] ++ codes "response" ∷ []
    ++ heading_if timed (codes "time") ++ codes "lag" ∷ [] ++ codes "preemptions/job" ∷ [] ++ codes "migrations/job" ∷ []
    ++ codes "fits up to" ∷ []

-- what the task is, and how soon its jobs were done
abbrev pub front_cells : Bool → List Named → Option SlotLength → Figures → List (List ℕ)
front_cells named names slot f =
    decimal f.task ∷ [] ++ name_cells named names f.task ++ ratio_cell f.cost f.period ∷ [] ++ up f.cost f.period 4 ∷ []
    ++ response_cell f.response f.period ∷ [] ++ time_cells slot f

-- after these cells its lag, how it moved, and the greatest cost that it may have
abbrev pub with_rates : List (List ℕ) → Figures → Option ℕ → List (List ℕ)
with_rates cells f grow =
    cells ++ lag_cell f.lag f.period ∷ [] ++ rate_cell f.preemptions f.jobs ∷ [] ++ rate_cell f.migrations f.jobs ∷ []
    ++ grow_cell grow f.period ∷ []

abbrev pub task_row : Bool → List Named → Option SlotLength → Figures → Option ℕ → List (List ℕ)
task_row named names slot f grow = with_rates (front_cells named names slot f) f grow

-- the k-th of these costs
abbrev pub grow_at : List (Option ℕ) → ℕ → Option ℕ
grow_at grows k = unwrap_or (slice_get grows k) None

-- the rows of these tasks, the first of which has the k-th of the costs
abbrev pub rows_from : Bool → List Named → Option SlotLength → List (Option ℕ) → ℕ → List Figures → List (List (List ℕ))
rows_from named names slot grows k [] = []
rows_from named names slot grows k (f ∷ fs) = task_row named names slot f (grow_at grows k) ∷ rows_from named names slot grows (k + 1) fs

-- the headings, and a row for each task
abbrev pub table_rows : List Named → Option SlotLength → List Figures → List (Option ℕ) → List (List (List ℕ))
table_rows names slot figures grows =
    heading_row (is_named names figures) (is_some slot) ∷ rows_from (is_named names figures) names slot grows 0 figures
