-- The numbers of a script's records rise.
use Rattle.std.proofs.Common.{◌≡◌, ◌<◌, ℕ, ◌+◌, List, [], ◌∷◌, Option, Some, None, Result, Ok, Err, sym, ap, subst, ◌∙◌, arith}
use Rattle.pf_script.specs.declared.fault.RecordFault.{RecordFault}
use Rattle.pf_script.specs.declared.record.Record.{Record}
use Rattle.pf_script.specs.declared.record.Record.TheVariants.{Heading, Settings, Asks}
use Rattle.pf_script.specs.declared.stage.Stage.{Stage}
use Rattle.pf_script.specs.declared.stage.Stage.TheVariants.{Beginning, Headed, Opened}
use Rattle.pf_script.specs.declared.record.ScriptSettings.{ScriptSettings}
use Rattle.pf_script.specs.Parsing.{record_at}
use Rattle.pf_script.specs.Places.{line_at, lines_behind, record_lines}
use Rattle.pf_script.specs.Script.{script_records}
use Rattle.pf_script.specs.Told.{LinesTold, Reading, Told, end_fault, end_reading, lines_in, reading, readings_from, stage_after, told}
use Rattle.pf_script_results.specs.Walk.{RiseAbove}

none_behind : (bound number line : ℕ) (fault : Option RecordFault) → RiseAbove bound (lines_in (end_reading number line fault))
none_behind bound number line None = tt
none_behind bound number line (Some fault) = tt

-- a record before others, whose numbers rise from it on
by_record : (stage : Stage) (number bound line : ℕ) (fields : List (List ℕ)) (rest : Stage → List Reading) (r : Result Record RecordFault) → bound < number
    → ((next : Stage) (least : ℕ) → least < number + 1 → RiseAbove least (lines_in (rest next)))
    → RiseAbove bound (lines_in (reading number line fields r ∷ rest (stage_after stage r)))
by_record stage number bound line fields rest (Ok Heading) h more = more Headed bound (omega (arith, h))
by_record stage number bound line fields rest (Ok (Settings s)) h more = more (Opened s.version) bound (omega (arith, h))
by_record stage number bound line fields rest (Ok (Asks asked)) h more = (h, more stage number (omega arith))
by_record stage number bound line fields rest (Err fault) h more = tt

rises : (stage : Stage) (number : ℕ) (lines : List ℕ) (records : List (List (List ℕ))) (bound : ℕ) → bound < number
    → RiseAbove bound (lines_in (readings_from stage number lines records))
unfolding readings_from
rises stage number lines [] bound h = none_behind bound number (line_at lines) (end_fault stage)
rises stage number lines (fields ∷ records) bound h =
    by_record stage number bound (line_at lines) fields (λ next. readings_from next (number + 1) (lines_behind lines) records) (record_at stage fields) h
    (λ next least below. rises next (number + 1) (lines_behind lines) records least below)

-- Use: those after the settings of a script.
pub told_rise : (script : List ℕ) (opening : ScriptSettings) (lines : LinesTold) → told script ≡ record { opening = Some opening; rest = lines }
    → RiseAbove 0 lines.lines
told_rise script opening lines is =
    subst (RiseAbove 0) (ap (λ (t : Told). t.rest.lines) is)
    (rises Beginning 1 (record_lines script) (script_records script) 0 (omega arith))
