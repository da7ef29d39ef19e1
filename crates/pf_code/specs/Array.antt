-- A schedule as a table in C.
use Rattle.std.specs.Prelude.{ℕ, ◌-◌, ◌==◌, max, if◌then◌else◌, Option, List, [], ◌∷◌, ◌++◌, codes, drop, take}
use Rattle.std.specs.Fmt.{decimal}
use Rattle.std.specs.List.{flat_map, range_with_len}
use Rattle.std.specs.Option.{option_map_or}
use Rattle.pf_order.specs.declared.pick.Pick.{Pick}
use Rattle.pf_place.specs.Occupancy.{sitter}
use Rattle.pf_run.specs.Inside.{Joined}
use Rattle.pf_desk.specs.Desk.{Seen}
use Rattle.pf_vocabulary.specs.Options.Ranges.{end_of, first_of}
use Rattle.pf_vocabulary.specs.declared.names.named.Named.{Named}
use Rattle.pf_vocabulary.specs.declared.names.titles.Titles.{Titles}
use Rattle.pf_vocabulary.specs.declared.options.slot_range.SlotRange.{SlotRange}
use Rattle.pf_code.specs.Header.{comments_text, constants_text}
use Rattle.pf_code.specs.Outline.{outline_of}
use Rattle.pf_code.specs.Parts.{joined}
use Rattle.pf_code.specs.Repetition.{admitted_in}
use Rattle.pf_code.specs.Symbol.{capitals}
use Rattle.pf_code.specs.Tasks.{tasks_text, type_line}
use Rattle.pf_code.specs.declared.outline.Outline.{Outline}

-- what stands for processor p: the task that sits on it, 0 for nobody, after a brace or a comma
abbrev pub seat_with : ℕ → Option Pick → List ℕ
seat_with p sitter = (if p == 0 then codes "    {" else codes ", ") ++ decimal (option_map_or (λ pick. pick.task) sitter 0)

-- the line of a row of m processors
abbrev pub row_text : ℕ → List (Option Pick) → List ℕ
row_text m row = flat_map (λ p. seat_with p (sitter row p)) (range_with_len 0 m) ++ codes "},\n"

-- C has no array without a row: where there is none, one with nobody stands for it
abbrev pub rows_or_nobody : List (List (Option Pick)) → List (List (Option Pick))
rows_or_nobody [] = [] ∷ []
rows_or_nobody (row ∷ rows) = row ∷ rows

-- the rows of the slots from `from` on and below `to`
abbrev pub rows_between : Seen → ℕ → ℕ → List (List (Option Pick))
rows_between seen from to = drop from (take to seen.rows)

-- the line that opens the array
abbrev pub declaration_line : List ℕ → ℕ → ℕ → List ℕ
declaration_line symbol slots m =
    joined (codes "static const " ∷ symbol ∷ codes "_task " ∷ symbol ∷ codes "_schedule[" ∷ decimal (max slots 1) ∷ codes "][" ∷ decimal m ∷ codes "] = {\n" ∷ [])

-- what stands before the rows
unfoldable pub header_text : List ℕ → Outline → List Named → List Joined → List ℕ
header_text symbol o names tasks =
    comments_text o ++ constants_text (capitals symbol) o ++ tasks_text (capitals symbol) o names tasks ++ type_line symbol tasks
    ++ declaration_line symbol (o.to - o.from) o.processors

abbrev pub table_end : List ℕ
table_end = codes "};\n#endif\n"

abbrev pub table_text : List ℕ → Outline → List Named → List Joined → List (List (Option Pick)) → List ℕ
table_text symbol o names tasks rows =
    header_text symbol o names tasks ++ flat_map (row_text o.processors) (rows_or_nobody rows) ++ table_end

-- of the slots from `from` on and below `to`
abbrev pub text_between : Seen → Titles → List ℕ → ℕ → ℕ → List ℕ
text_between seen titles symbol from to =
    table_text symbol (outline_of seen titles from to) titles.names (admitted_in seen) (rows_between seen from to)

-- the schedule that was seen: a row for each slot of the range
unfoldable pub c_text : Seen → Titles → SlotRange → List ℕ → List ℕ
c_text seen titles range symbol = text_between seen titles symbol (first_of range) (end_of range seen.state.now)
