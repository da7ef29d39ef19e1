-- The table of the quanta that were taken, as csv writes it.
use Rattle.std.specs.Prelude.{ℕ, List, [], ◌∷◌, codes, map}
use Rattle.std.specs.Fmt.{decimal}
use Rattle.pf_board.specs.declared.quantum.Quantum.{Quantum}
use Rattle.pf_text.specs.Page.{table_text}

abbrev pub taken_record : Quantum → List (List ℕ)
taken_record q = decimal q.slot ∷ decimal q.processor ∷ decimal q.task ∷ decimal q.sub ∷ []

-- a line for each of these quanta, in their order, after the heading
unfoldable pub taken_text_of : List Quantum → List ℕ
taken_text_of quanta =
    table_text ((codes "slot" ∷ codes "processor" ∷ codes "task" ∷ codes "sub" ∷ []) ∷ map taken_record quanta)
