-- The quanta of a schedule, a line for each.
use Rattle.std.specs.Prelude.{ℕ, ◌+◌, Option, None, Some, List, [], ◌∷◌, ◌++◌, codes, drop, take}
use Rattle.std.specs.Fmt.{decimal}
use Rattle.pf_order.specs.declared.pick.Pick.{Pick}
use Rattle.pf_desk.specs.Desk.{Seen}
use Rattle.pf_text.specs.Page.{table_text}

-- the line of a processor in slot t, where somebody sits on it
abbrev pub quantum_records : ℕ → ℕ → Option Pick → List (List (List ℕ))
quantum_records t processor None = []
quantum_records t processor (Some pick) =
    (decimal t ∷ decimal processor ∷ decimal pick.task ∷ decimal pick.sub ∷ []) ∷ []

-- those of the row of slot t, from a processor on
abbrev pub row_records : ℕ → ℕ → List (Option Pick) → List (List (List ℕ))
row_records t processor [] = []
row_records t processor (sitter ∷ row) = quantum_records t processor sitter ++ row_records t (processor + 1) row

-- those of the rows from slot t on
abbrev pub quanta_records : ℕ → List (List (Option Pick)) → List (List (List ℕ))
quanta_records t [] = []
quanta_records t (row ∷ rows) = row_records t 0 row ++ quanta_records (t + 1) rows

-- the quanta of the slots from `from` on and below `to`: the heading, and a line for each, by slot, then by processor
unfoldable pub quanta_text : Seen → ℕ → ℕ → List ℕ
quanta_text seen from to =
    table_text ((codes "slot" ∷ codes "processor" ∷ codes "task" ∷ codes "sub" ∷ []) ∷ quanta_records from (drop from (take to seen.rows)))
