-- A fit as text.
use Rattle.std.specs.Prelude.{ℕ, Option, List, [], ◌∷◌, ◌++◌, codes, sum_by}
use Rattle.pf_vocabulary.specs.declared.names.titles.Titles.{Titles}
use Rattle.pf_text.specs.Columns.Columns.{columns_text}
use Rattle.pf_tally.specs.declared.figures.Figures.{Figures}
use Rattle.pf_verdict.specs.Findings.{Found}
use Rattle.pf_fit_text.specs.Lines.{counts_line, is_proved_in, overload_text, proved_text, top_lines}
use Rattle.pf_fit_text.specs.Rows.{table_rows}
use Rattle.pf_fit_text.specs.WorstLine.{worst_line}
use Rattle.pf_fit_text.specs.declared.carried.Carried.{Carried}

-- the table and the last line, between empty lines
unfoldable pub table_text : Titles → Found → List ℕ
table_text titles found =
    codes "\n" ++ columns_text (table_rows titles.names titles.slot found.figures found.grows) ++ codes "\n"
    ++ worst_line titles.names found.figures

-- where there is a task
abbrev pub tasks_text : Titles → Found → List Figures → List ℕ
tasks_text titles found [] = []
tasks_text titles found (f ∷ fs) = table_text titles found

-- what was found of the slots stepped; the lists of what was refused, denied and missed stand behind the first lines
unfoldable pub front_text : Carried → Option ℕ → Found → List ℕ
front_text carried joins found =
    top_lines carried joins found.verdict
    (counts_line carried.now found.refused found.denied found.unreached (sum_by (λ f. f.missed) found.figures)) found.strain.tightest

unfoldable pub fit_text : Carried → Option ℕ → Titles → Found → List ℕ → List ℕ
fit_text carried joins titles found lists =
    front_text carried joins found
    ++ lists
    ++ overload_text carried.base found.strain.first found.strain.above found.units
    ++ proved_text (is_proved_in carried.now found.strain) found.carries
    ++ tasks_text titles found found.figures
