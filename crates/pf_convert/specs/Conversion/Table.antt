-- The table of what several quanta give.
use Rattle.std.specs.Prelude.{ℕ, ◌==◌, Bool, true, false, nat_le, if◌then◌else◌, Option, None, Some, unwrap_or, List, [], ◌∷◌, ◌++◌, codes}
use Rattle.std.specs.Fmt.{decimal}
use Rattle.pf_text.specs.Columns.Decimals.{up, with_fewest_places}
use Rattle.pf_convert.specs.declared.plan.Plan.{Plan}
use Rattle.pf_scenario.specs.declared.settings.TheConstants.{MOST_PROCESSORS}
use Rattle.pf_convert.specs.List.Times.{places_of}
use Rattle.pf_convert.specs.declared.conversion.planned.Planned.{Planned}
use Rattle.pf_convert.specs.declared.conversion.table.Series.{Series}
use Rattle.pf_convert.specs.List.Parts.{joined}
use Rattle.pf_convert.specs.Conversion.Script.{numbered}

abbrev pub periods_word : Bool → List ℕ
periods_word true = codes ",exact,"
periods_word false = codes ",rounded,"

-- it fits the processors that are given, or as many as a desk has at most
abbrev pub fits_word : Option ℕ → ℕ → List ℕ
fits_word processors needed = if nat_le needed (unwrap_or processors MOST_PROCESSORS) then codes ",yes," else codes ",no,"

abbrev pub best_word : Option ℕ → ℕ → List ℕ
best_word None place = codes "\n"
best_word (Some other) place = if other == place then codes "best\n" else codes "\n"

abbrev pub no_plan_line : Series → ℕ → List ℕ
no_plan_line s quantum =
    joined (with_fewest_places (places_of s.unit) quantum ∷ codes ",,," ∷ []) ++ up s.work 1000000000 4 ++ joined (codes ",,,,no,\n" ∷ [])

abbrev pub plan_line : Series → ℕ → ℕ → ℕ → Plan → List ℕ
plan_line s place quantum needed plan =
    joined (with_fewest_places (places_of s.unit) quantum ∷ codes "," ∷ decimal plan.base ∷ periods_word plan.exact ∷ []) ++ up s.work 1000000000 4
    ++ joined (codes "," ∷ decimal plan.load ∷ codes "," ∷ []) ++ up plan.load plan.base 4
    ++ joined (codes "," ∷ decimal needed ∷ fits_word s.processors needed ∷ best_word s.best place ∷ [])

abbrev pub line_with : Series → ℕ → Planned → Option Plan → List ℕ
line_with s place p None = no_plan_line s p.quantum.length
line_with s place p (Some plan) = plan_line s place p.quantum.length (unwrap_or p.needed 0) plan

-- the line of the quantum at a place
abbrev pub quantum_line : Series → ℕ → Planned → List ℕ
quantum_line s place p = line_with s place p p.plan

unfoldable pub series_text : Series → List Planned → List ℕ
series_text s all = codes "quantum,base,periods,work,load,utilization,processors,fits,best\n" ++ numbered (quantum_line s) 0 all
