-- What a check tells of a bad record of a plan.
use Rattle.std.specs.Prelude.{ℕ, ◌-◌, ◌==◌, if◌then◌else◌, List, ◌++◌, codes}
use Rattle.std.specs.Fmt.{decimal}
use Rattle.pf_script.specs.Fields.{field}
use Rattle.pf_script.specs.Check.Reports.{count_text, field_text, outside_text}
use Rattle.pf_text.specs.Quoted.{quoted}
use Rattle.pf_script.specs.declared.plan.fault.BadRecord.{BadRecord}
use Rattle.pf_script.specs.declared.plan.state.Progress.{Progress}
use Rattle.pf_script.specs.declared.plan.fault.Reason.{Reason}
use Rattle.pf_script.specs.declared.plan.fault.Reason.TheVariants.{NoRecord, NoVersion, NoChange, NoEvent, NoSettings, LateSettings, LateSlot, NoNumber, NoCap, Outside, Fields, JoinFields, StepFields, SettingsFields, NoUnit, HasName, NoName, NameOf, NoTask, NoLabel, LabelTaken, LabelUnknown}

-- how many fields a join has whose fewest are these: EARLY may be left out
abbrev pub join_fields : ℕ → List ℕ
join_fields least =
    if least == 5 then codes "5 or 6" else if least == 6 then codes "6 or 7" else if least == 7 then codes "7 or 8" else codes "8 or 9"

-- a task that has a name already
abbrev pub named_text : ℕ → List ℕ
named_text task = codes "task " ++ decimal task ++ codes " has a name already"

-- why a record is none, of its field that is at fault
unfoldable pub plan_reason_text : List ℕ → Reason → List ℕ
plan_reason_text at NoRecord =
    quoted at ++ codes " is no record: settings, slot, name, join, leave, delay, limit, label, alter, strike, strict, step"
plan_reason_text at NoVersion = quoted at ++ codes " is no version: 1"
plan_reason_text at NoChange = quoted at ++ codes " is no change: join, leave, delay, limit, label, alter, strike"
plan_reason_text at NoEvent = quoted at ++ codes " is no event: join, leave, delay, limit"
plan_reason_text at NoSettings = codes "settings are expected"
plan_reason_text at LateSettings = codes "settings come once, before all changes and steps"
plan_reason_text at LateSlot = codes "slot comes once, before all changes and steps"
plan_reason_text at NoNumber = quoted at ++ codes " is no number of 1 to 15 digits"
plan_reason_text at NoCap = quoted at ++ codes " is no number of 1 to 15 digits and not full"
plan_reason_text at (Outside number most) = outside_text number most
plan_reason_text at (Fields count) = count_text count
plan_reason_text at (JoinFields least) = join_fields least ++ codes " fields are expected"
plan_reason_text at StepFields = codes "1 or 2 fields are expected"
plan_reason_text at SettingsFields = codes "3 to 5 fields are expected"
plan_reason_text at NoUnit = quoted at ++ codes " is no unit: ns, us, ms, s"
plan_reason_text at (HasName task) = named_text task
plan_reason_text at NoName = quoted at ++ codes " is no name: a letter, then up to 23 letters, digits, spaces, _ - . +"
plan_reason_text at (NameOf task) = (quoted at ++ codes " is the name of task ") ++ (decimal task ++ codes " already")
plan_reason_text at NoTask = quoted at ++ codes " names no task so far"
plan_reason_text at NoLabel = quoted at ++ codes " is no label: a letter, then up to 23 letters, digits, spaces, _ - . +"
plan_reason_text at LabelTaken = quoted at ++ codes " labels an event already"
plan_reason_text at LabelUnknown = quoted at ++ codes " labels no event so far"

-- a bad record, with its fields and what came before it
pub record FaultShown : Type 0 where
  pub bad : BadRecord
  pub fields : List (List ℕ)
  pub progress : Progress

abbrev pub shown : Progress → BadRecord → List (List ℕ) → FaultShown
shown progress bad fields = record { bad = bad; fields = fields; progress = progress }

-- where it is, and why
unfoldable pub plan_report_line : BadRecord → List ℕ → List ℕ
plan_report_line bad at =
    codes "line " ++ decimal bad.line ++ codes ", record " ++ decimal bad.number ++ field_text bad.fault.field
    ++ codes ": " ++ plan_reason_text at bad.fault.reason ++ codes "\n"

abbrev pub plan_report_text : FaultShown → List ℕ
plan_report_text f = plan_report_line f.bad (field f.fields (f.bad.fault.field - 1))
