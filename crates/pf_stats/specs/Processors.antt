-- How the processors were used, as a table.
use Rattle.std.specs.Prelude.{ℕ, ◌+◌, ◌-◌, nat_eq, Option, is_some, List, [], ◌∷◌, codes, length, map, count_by, if◌then◌else◌}
use Rattle.std.specs.Option.{option_map, option_eq}
use Rattle.std.specs.List.{range_with_len}
use Rattle.std.specs.Fmt.{decimal}
use Rattle.pf_order.specs.declared.pick.Pick.{Pick}
use Rattle.pf_place.specs.Occupancy.{sitter}
use Rattle.pf_desk.specs.Desk.{Seen}
use Rattle.pf_text.specs.Page.{table_text}

-- the task on a processor in a row, if it isn't idle there
abbrev pub task_on : ℕ → List (Option Pick) → Option ℕ
task_on processor row = option_map (λ pick. pick.task) (sitter row processor)

-- how many quanta the processor gave in the slots of these rows
abbrev pub quanta_on : ℕ → List (List (Option Pick)) → ℕ
quanta_on processor rows = count_by (λ row. is_some (task_on processor row)) rows

-- how often the one after it is another, from x on; nobody is one too
abbrev pub changes_behind : Option ℕ → List (Option ℕ) → ℕ
changes_behind x [] = 0
changes_behind x (y ∷ ys) = (if option_eq nat_eq x y then 0 else 1) + changes_behind y ys

abbrev pub changes_in : List (Option ℕ) → ℕ
changes_in [] = 0
changes_in (x ∷ xs) = changes_behind x xs

-- in how many slots the task on the processor is another than in the slot before
abbrev pub changes_on : ℕ → List (List (Option Pick)) → ℕ
changes_on processor rows = changes_in (map (task_on processor) rows)

-- a processor's quanta, the slots in which it is idle or out of use, and its changes
abbrev pub processor_record : List (List (Option Pick)) → ℕ → List (List ℕ)
processor_record rows processor =
    decimal processor ∷ decimal (quanta_on processor rows) ∷ decimal (length rows - quanta_on processor rows)
    ∷ decimal (changes_on processor rows) ∷ []

abbrev pub processors_heading : List (List ℕ)
processors_heading = codes "processor" ∷ codes "quanta" ∷ codes "idle" ∷ codes "changes" ∷ []

-- a line for each processor
unfoldable pub processors_text : Seen → List ℕ
processors_text seen =
    table_text (processors_heading
    ∷ map (processor_record seen.rows) (range_with_len 0 seen.state.plan.settings.processors))
