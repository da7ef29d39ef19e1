-- What is wrong with a bad record of version 1 or 2.
use Rattle.std.specs.Prelude.{ℕ, ◌-◌, Bool, true, false, nat_lt, ◌&&◌, not, if◌then◌else◌, List, ◌++◌, length, codes}
use Rattle.std.specs.Fmt.{decimal}
use Rattle.pf_script.specs.declared.fault.Reason.{Reason}
use Rattle.pf_script.specs.declared.fault.Reason.TheVariants.{NoRecord, NoChange, NoEvent, NoSettings, LateSettings, NoVersion, NoNumber, Outside, Fields, StepFields}
use Rattle.pf_script.specs.declared.fault.RecordFault.{RecordFault}
use Rattle.pf_script.specs.Fields.{field}
use Rattle.pf_script.specs.Messages.FieldTexts.{missing_text, named_text, shown_text, too_much_text}

-- a number that is not within its limits
abbrev pub outside_text : ℕ → ℕ → List ℕ
outside_text number most = decimal number ++ codes " is not within 1 to " ++ decimal most

-- whether the settings are what is wrong
abbrev pub is_of_settings : Reason → Bool
is_of_settings NoSettings = true
is_of_settings LateSettings = true
is_of_settings other = false

-- whether the field at fault is not there
abbrev pub is_missing : List (List ℕ) → RecordFault → Bool
is_missing fields fault = nat_lt (length fields) fault.field && not (is_of_settings fault.reason)

-- by the reason, where it is there
unfoldable pub reason_what : List (List ℕ) → ℕ → List ℕ → Reason → List ℕ
reason_what fields number at (NoRecord version) = shown_text at (codes " is no record")
reason_what fields number at (NoChange version) = shown_text at (codes " is no change")
reason_what fields number at (NoEvent version) = shown_text at (codes " is no event")
reason_what fields number at NoSettings = codes "settings are expected"
reason_what fields number at LateSettings = codes "settings come once, before all changes and steps"
reason_what fields number at NoVersion = shown_text at (codes " is no version: 2")
reason_what fields number at NoNumber = named_text false fields number (shown_text at (codes " is no number of 1 to 15 digits"))
reason_what fields number at (Outside value most) = named_text false fields number (outside_text value most)
reason_what fields number at (Fields count) = too_much_text false fields
reason_what fields number at StepFields = too_much_text false fields

abbrev pub what_text : List (List ℕ) → RecordFault → List ℕ
what_text fields fault =
    if is_missing fields fault then missing_text false fields fault.field
    else reason_what fields fault.field (field fields (fault.field - 1)) fault.reason
