-- The table of a plan and its margins.
use Rattle.std.specs.Prelude.{ℕ, ◌||◌, ◌&&◌, Bool, false, if◌then◌else◌, Option, None, Some, is_some, MatchOption, List, [], ◌∷◌, ◌++◌, map, codes}
use Rattle.std.specs.List.{list_all}
use Rattle.pf_text.specs.Columns.Columns.{columns_text}
use Rattle.pf_text.specs.Columns.Decimals.{up}
use Rattle.pf_vocabulary.specs.declared.names.unit.Unit.{Unit}
use Rattle.pf_vocabulary.specs.Names.Slots.{unit_word}
use Rattle.pf_convert.specs.declared.fit.short.Side.{Side}
use Rattle.pf_convert.specs.declared.fit.short.Side.TheVariants.{Up, Down}
use Rattle.pf_convert.specs.declared.fit.shown.Shown.{Shown}
use Rattle.pf_convert.specs.declared.fit.shown_task.ShownTask.{ShownTask}
use Rattle.pf_convert.specs.Conversion.Report.{has_deadline}
use Rattle.pf_convert.specs.Fit.Short.{is_long, short_text}
use Rattle.pf_convert.specs.Fit.Shown.{is_fit, least_time_of, response_of}
use Rattle.pf_convert.specs.List.Parts.{joined}
use Rattle.pf_convert.specs.Slots.{due_of}

abbrev pub is_long_in : Unit → Option ℕ → Bool
is_long_in unit None = false
is_long_in unit (Some time) = is_long unit time

-- within how long a job of a task is done, where the plan fits
abbrev pub done_time : Shown → ShownTask → Option ℕ
done_time s t = if is_fit s then Some (response_of s t) else None

-- a time that is shown of a task is rounded
abbrev pub has_long_time : Shown → Bool → ShownTask → Bool
has_long_time s dues t =
    is_long s.file.now.unit t.times.work || is_long s.file.now.unit t.times.every || (dues && is_long s.file.now.unit (due_of t.times))
    || is_long_in s.file.now.unit (done_time s t) || is_long_in s.file.now.unit t.margin.most || is_long_in s.file.now.unit (least_time_of s t)

-- one of some tasks has one
unfoldable pub has_long_times : Shown → Bool → List ShownTask → Bool
has_long_times s dues [] = false
has_long_times s dues (t ∷ tasks) = has_long_time s dues t || has_long_times s dues tasks

abbrev pub rounded_words : Bool → List ℕ
rounded_words long = if long then codes ", long ones rounded to the safe side\n" else codes "\n"

abbrev pub time_cell : Unit → Side → Option ℕ → List ℕ
time_cell unit side None = codes "-"
time_cell unit side (Some time) = short_text unit side time

abbrev pub due_cell : Shown → Bool → ShownTask → List (List ℕ)
due_cell s dues t = if dues then short_text s.file.now.unit Down (due_of t.times) ∷ [] else []

-- the two lines of headings
abbrev pub upper_headings : Bool → List (List ℕ)
upper_headings dues =
    codes "" ∷ codes "" ∷ codes "" ∷ (if dues then codes "due" ∷ [] else [])
    ++ codes "" ∷ codes "done" ∷ codes "work" ∷ (if dues then codes "due" else codes "every") ∷ []

abbrev pub lower_headings : Bool → List (List ℕ)
lower_headings dues =
    codes "task" ∷ codes "work" ∷ codes "every" ∷ (if dues then codes "within" ∷ [] else [])
    ++ codes "share" ∷ codes "within" ∷ codes "at most" ∷ codes "at least" ∷ []

abbrev pub task_row : Shown → Bool → ShownTask → List (List ℕ)
task_row s dues t =
    t.name.now ∷ short_text s.file.now.unit Up t.times.work ∷ short_text s.file.now.unit Down t.times.every ∷ due_cell s dues t
    ++ up t.slots.cost t.slots.period 4 ∷ time_cell s.file.now.unit Up (done_time s t) ∷ time_cell s.file.now.unit Down t.margin.most
    ∷ time_cell s.file.now.unit Up (least_time_of s t) ∷ []

abbrev pub table_rows : Shown → Bool → List (List (List ℕ))
table_rows s dues = upper_headings dues ∷ lower_headings dues ∷ map (task_row s dues) s.tasks.now

abbrev pub table_front : Shown → Bool → List ℕ
table_front s dues = joined (codes "\ntimes in " ∷ unit_word s.file.now.unit ∷ rounded_words (has_long_times s dues s.tasks.now) ∷ [])

abbrev pub table_with : Shown → Bool → List ℕ
table_with s dues = table_front s dues ++ columns_text (table_rows s dues) ++ codes "\n"

abbrev pub table_text : Shown → List ℕ
table_text s = table_with s (has_deadline s.listed.now)
