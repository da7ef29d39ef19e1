-- The tasks of a table, each a line.
use Rattle.std.specs.Prelude.{ℕ, ◌+◌, ◌-◌, ◌*◌, nat_lt, if◌then◌else◌, Option, None, Some, List, [], ◌∷◌, ◌++◌, map, count_by, codes}
use Rattle.std.specs.Fmt.{decimal}
use Rattle.std.specs.Int.{div_ceil}
use Rattle.std.specs.List.{list_any}
use Rattle.std.specs.Option.{option_map_or}
use Rattle.std.specs.Str.{bytes_eq}
use Rattle.pf_weight.specs.Share.{Share}
use Rattle.pf_run.specs.Inside.{Joined}
use Rattle.pf_vocabulary.specs.Names.Names.{name_of}
use Rattle.pf_vocabulary.specs.declared.names.named.Named.{Named}
use Rattle.pf_vocabulary.specs.declared.names.slot_length.SlotLength.{SlotLength}
use Rattle.pf_code.specs.Outline.{nanoseconds_of}
use Rattle.pf_code.specs.Parts.{joined}
use Rattle.pf_code.specs.Repetition.{known_span}
use Rattle.pf_code.specs.Symbol.{identifier_of}
use Rattle.pf_code.specs.declared.outline.Outline.{Outline}

-- the symbol that a task would have alone: its name's, or its number
abbrev pub own_symbol : List Named → Joined → List ℕ
own_symbol names j = option_map_or identifier_of (name_of names j.task) (decimal j.task)

-- a symbol that is one of these once, and else the number
abbrev pub symbol_among : List (List ℕ) → List ℕ → ℕ → List ℕ
symbol_among symbols own task = if nat_lt 1 (count_by (bytes_eq own) symbols) then decimal task else own

-- the symbol of a task among others: its own, or its number where another's would be alike
abbrev pub symbol_of : List Named → List Joined → Joined → List ℕ
symbol_of names tasks j = symbol_among (map (own_symbol names) tasks) (own_symbol names j) j.task

-- within so many slots of its arrival a job is done
abbrev pub bound_of : Share → ℕ
bound_of w = w.period + div_ceil (w.period - 1) w.cost + 1

-- a bound is told where the table repeats
abbrev pub bound_words : SlotLength → Share → Option ℕ → List ℕ
bound_words slot w (Some span) = joined (codes ", done within " ∷ decimal (bound_of w * nanoseconds_of slot) ∷ codes " ns" ∷ [])
bound_words slot w None = []

-- period and bound, where the slot's length is told
abbrev pub time_words : Option SlotLength → Share → Option ℕ → List ℕ
time_words (Some slot) w span = joined (codes ", each " ∷ decimal (w.period * nanoseconds_of slot) ∷ codes " ns" ∷ []) ++ bound_words slot w span
time_words None w span = []

abbrev pub name_words : Option (List ℕ) → List ℕ
name_words (Some name) = joined (name ∷ codes ": " ∷ [])
name_words None = []

abbrev pub number_words : List ℕ → List ℕ → ℕ → List ℕ → List ℕ
number_words capitals symbol task comma =
    joined (codes "    " ∷ capitals ∷ codes "_TASK_" ∷ symbol ∷ codes " = " ∷ decimal task ∷ comma ∷ codes " /* " ∷ [])

abbrev pub weight_words : Share → List ℕ
weight_words w = joined (decimal w.cost ∷ codes " of " ∷ decimal w.period ∷ codes " slots" ∷ [])

-- what its comment tells
abbrev pub remark_text : Outline → List Named → Joined → List ℕ
remark_text o names j =
    name_words (name_of names j.task) ++ weight_words j.weight ++ time_words o.slot j.weight (known_span o.repetition) ++ codes " */\n"

-- the line of a task with this symbol
unfoldable pub task_line : List ℕ → Outline → List Named → List ℕ → Joined → List ℕ → List ℕ
task_line capitals o names symbol j comma = number_words capitals symbol j.task comma ++ remark_text o names j

-- a comma stands where more tasks follow
abbrev pub comma_before : List Joined → List ℕ
comma_before [] = []
comma_before (j ∷ js) = codes ","

-- the lines of these tasks, among all of them
abbrev pub lines_among : List ℕ → Outline → List Named → List Joined → List Joined → List ℕ
lines_among capitals o names all [] = []
lines_among capitals o names all (j ∷ js) =
    task_line capitals o names (symbol_of names all j) j (comma_before js) ++ lines_among capitals o names all js

-- an enum of the tasks, where there are any
abbrev pub tasks_text : List ℕ → Outline → List Named → List Joined → List ℕ
tasks_text capitals o names [] = []
tasks_text capitals o names (j ∷ js) = codes "enum {\n" ++ lines_among capitals o names (j ∷ js) (j ∷ js) ++ codes "};\n"

-- the smallest type that has these numbers
abbrev pub type_words : List Joined → List ℕ
type_words tasks = if list_any (λ j. nat_lt 255 j.task) tasks then codes "typedef uint16_t " else codes "typedef uint8_t "

abbrev pub type_line : List ℕ → List Joined → List ℕ
type_line symbol tasks = joined (type_words tasks ∷ symbol ∷ codes "_task;\n" ∷ [])
