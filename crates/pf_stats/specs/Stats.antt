-- The figures of each task, as a table.
use Rattle.std.specs.Prelude.{ℕ, Option, Some, List, [], ◌∷◌, ◌++◌, codes, map}
use Rattle.std.specs.Option.{option_map_or}
use Rattle.std.specs.Fmt.{decimal, signed_decimal}
use Rattle.pf_run.specs.Computed.{run_of}
use Rattle.pf_tally.specs.declared.extremes.Extremes.{Extremes}
use Rattle.pf_tally.specs.declared.figures.Figures.{Figures}
use Rattle.pf_tally.specs.Figures.{figures_of}
use Rattle.pf_desk.specs.Desk.{Seen}
use Rattle.pf_vocabulary.specs.declared.names.titles.Titles.{Titles}
use Rattle.pf_vocabulary.specs.NameColumn.Column.{name_fields, name_heading}
use Rattle.pf_text.specs.Page.{table_text}

-- the response of no job is empty
abbrev pub least_field : Option Extremes → List ℕ
least_field extremes = option_map_or (λ e. signed_decimal e.least) extremes []

abbrev pub greatest_field : Option Extremes → List ℕ
greatest_field extremes = option_map_or (λ e. signed_decimal e.greatest) extremes []

-- a task and its quanta; with how it moved, and its jobs; with how soon and how late these were
abbrev pub task_fields : Figures → List (List ℕ)
task_fields f = decimal f.task ∷ decimal f.cost ∷ decimal f.period ∷ decimal f.quanta ∷ []

abbrev pub work_fields : Figures → List (List ℕ)
work_fields f = task_fields f ++ decimal f.migrations ∷ decimal f.preemptions ∷ decimal f.jobs ∷ []

abbrev pub time_fields : Figures → List (List ℕ)
time_fields f = work_fields f ++ least_field f.response ∷ greatest_field f.response ∷ decimal f.missed ∷ decimal f.tardiness ∷ []

-- all of it, with its lag at the end
abbrev pub figures_record : Figures → List (List ℕ)
figures_record f = time_fields f ++ least_field (Some f.lag) ∷ greatest_field (Some f.lag) ∷ []

abbrev pub stats_heading : List (List ℕ)
stats_heading =
    codes "task" ∷ codes "cost" ∷ codes "period" ∷ codes "quanta" ∷ codes "migrations" ∷ codes "preemptions" ∷ codes "jobs"
    ∷ codes "response_min" ∷ codes "response_max" ∷ codes "missed" ∷ codes "tardiness_max" ∷ codes "lag_min"
    ∷ codes "lag_max" ∷ []

-- after all of it in a plan the name of the task
abbrev pub named_figures_record : Titles → Figures → List (List ℕ)
named_figures_record titles f = figures_record f ++ name_fields titles f.task

-- a line for each task admitted in a slot below now, by task number
unfoldable pub stats_text : Seen → Titles → List ℕ
stats_text seen titles =
    table_text ((stats_heading ++ name_heading titles)
    ∷ map (named_figures_record titles) (figures_of seen.state.plan (run_of seen.state.plan seen.state.now) seen.rows))
