-- The cells of a fit's table.
use Rattle.std.specs.Prelude.{ℕ, suc, ◌*◌, ◌==◌, ℤ, pos, negsuc, Bool, if◌then◌else◌, Option, None, Some, List, [], ◌∷◌, ◌++◌, codes}
use Rattle.std.specs.Fmt.{decimal, signed_decimal}
use Rattle.std.specs.List.{list_any}
use Rattle.std.specs.Option.{is_some, unwrap_or}
use Rattle.pf_vocabulary.specs.Names.Names.{name_of}
use Rattle.pf_vocabulary.specs.Names.Slots.{unit_word}
use Rattle.pf_vocabulary.specs.declared.names.named.Named.{Named}
use Rattle.pf_vocabulary.specs.declared.names.slot_length.SlotLength.{SlotLength}
use Rattle.pf_text.specs.Columns.Decimals.{signed_cut, up}
use Rattle.pf_tally.specs.declared.extremes.Extremes.{Extremes}
use Rattle.pf_tally.specs.declared.figures.Figures.{Figures}

abbrev pub ratio_cell : ℕ → ℕ → List ℕ
ratio_cell cost period = decimal cost ++ (codes "/" ++ decimal period)

-- the greatest response in the period; none without a job
unfoldable pub response_cell : Option Extremes → ℕ → List ℕ
response_cell None period = codes "- of " ++ decimal period
response_cell (Some e) period = signed_decimal e.greatest ++ (codes " of " ++ decimal period)

-- so many slots in time
abbrev pub time_of : SlotLength → ℤ → List ℕ
time_of slot (pos n) = decimal (n * slot.length) ++ unit_word slot.unit
time_of slot (negsuc n) = codes "-" ++ (decimal (suc n * slot.length) ++ unit_word slot.unit)

abbrev pub response_time : SlotLength → Option Extremes → List ℕ
response_time slot None = codes "-"
response_time slot (Some e) = time_of slot e.greatest

unfoldable pub time_cell : SlotLength → Option Extremes → ℕ → List ℕ
time_cell slot response period = response_time slot response ++ codes " of " ++ time_of slot (pos period)

-- from the least to the greatest lag, in quanta
unfoldable pub lag_cell : Extremes → ℕ → List ℕ
lag_cell lag period = signed_cut lag.least period 3 ++ codes " to " ++ signed_cut lag.greatest period 3

-- so many a job
unfoldable pub rate_cell : ℕ → ℕ → List ℕ
rate_cell count jobs = if jobs == 0 then codes "-" else up count jobs 2

unfoldable pub grow_cell : Option ℕ → ℕ → List ℕ
grow_cell None period = codes "-"
grow_cell (Some cost) period = ratio_cell cost period

-- a column of names, where a task has one
abbrev pub is_named : List Named → List Figures → Bool
is_named names figures = list_any (λ f. is_some (name_of names f.task)) figures

abbrev pub name_cells : Bool → List Named → ℕ → List (List ℕ)
name_cells named names task = if named then unwrap_or (name_of names task) [] ∷ [] else []

-- and one of times, where the length of a slot was told
abbrev pub time_cells : Option SlotLength → Figures → List (List ℕ)
time_cells None f = []
time_cells (Some slot) f = time_cell slot f.response f.period ∷ []
