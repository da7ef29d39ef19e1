-- What is wrong with a bad record of a plan.
use Rattle.std.specs.Prelude.{ℕ, ◌-◌, Bool, true, false, nat_lt, ◌&&◌, not, unwrap_or, if◌then◌else◌, List, [], ◌++◌, length, codes}
use Rattle.std.specs.Fmt.{decimal}
use Rattle.pf_text.specs.Quoted.{quoted}
use Rattle.pf_vocabulary.specs.Names.Names.{name_of}
use Rattle.pf_vocabulary.specs.declared.names.named.Named.{Named}
use Rattle.pf_script.specs.declared.plan.fault.Reason.{Reason}
use Rattle.pf_script.specs.declared.plan.fault.Reason.TheVariants.{NoRecord, NoVersion, NoChange, NoEvent, NoSettings, LateSettings, LateSlot, NoNumber, NoCap, Outside, Fields, JoinFields, StepFields, SettingsFields, NoUnit, HasName, NoName, NameOf, NoTask, NoLabel, LabelTaken, LabelUnknown}
use Rattle.pf_script.specs.declared.plan.fault.RecordFault.{RecordFault}
use Rattle.pf_script.specs.Fields.{field}
use Rattle.pf_script.specs.Messages.FieldTexts.{missing_text, named_text, shown_text, too_much_text}
use Rattle.pf_script.specs.Messages.Texts.{outside_text}

-- whether the record comes too early or too late
abbrev pub is_of_order : Reason → Bool
is_of_order NoSettings = true
is_of_order LateSettings = true
is_of_order LateSlot = true
is_of_order other = false

-- whether the field at fault is not there
abbrev pub is_missing : List (List ℕ) → RecordFault → Bool
is_missing fields fault = nat_lt (length fields) fault.field && not (is_of_order fault.reason)

-- a task that has a name
abbrev pub named_already_text : List Named → ℕ → List ℕ
named_already_text names task = codes "task " ++ decimal task ++ codes " is named " ++ unwrap_or (name_of names task) [] ++ codes " already"

-- a name that a task has
abbrev pub owner_text : ℕ → List ℕ
owner_text task = codes " is the name of task " ++ decimal task ++ codes " already"

abbrev pub owned_text : List ℕ → ℕ → List ℕ
owned_text at task = quoted at ++ owner_text task

-- what follows the value of a field that is none of what it has to be
abbrev pub field_words : Reason → List ℕ
field_words NoNumber = codes " is no number of 1 to 15 digits"
field_words NoCap = codes " is neither full nor a number of 1 to 15 digits"
field_words NoUnit = codes " is no unit: ns, us, ms, s"
field_words NoName = codes " is no name: a letter, then up to 23 letters, digits, spaces, _ - . +"
field_words NoTask = codes " names no task so far"
field_words NoLabel = codes " is no label: a letter, then up to 23 letters, digits, spaces, _ - . +"
field_words LabelTaken = codes " labels an event already"
field_words LabelUnknown = codes " labels no event so far"
field_words reason = []

-- by the reason, where the field is there
unfoldable pub reason_what : List Named → List (List ℕ) → ℕ → List ℕ → Reason → List ℕ
reason_what names fields number at NoRecord = shown_text at (codes " is no record")
reason_what names fields number at NoVersion = shown_text at (codes " is no version: 1")
reason_what names fields number at NoChange = shown_text at (codes " is no change")
reason_what names fields number at NoEvent = shown_text at (codes " is no event")
reason_what names fields number at NoSettings = codes "settings are expected"
reason_what names fields number at LateSettings = codes "settings come once, before all changes and steps"
reason_what names fields number at LateSlot = codes "slot comes once, before all changes and steps"
reason_what names fields number at (Outside value most) = named_text true fields number (outside_text value most)
reason_what names fields number at (Fields count) = too_much_text true fields
reason_what names fields number at (JoinFields least) = too_much_text true fields
reason_what names fields number at StepFields = too_much_text true fields
reason_what names fields number at SettingsFields = too_much_text true fields
reason_what names fields number at (HasName task) = named_text true fields number (named_already_text names task)
reason_what names fields number at (NameOf task) = named_text true fields number (owned_text at task)
reason_what names fields number at reason = named_text true fields number (shown_text at (field_words reason))

abbrev pub what_text : List Named → List (List ℕ) → RecordFault → List ℕ
what_text names fields fault =
    if is_missing fields fault then missing_text true fields fault.field
    else reason_what names fields fault.field (field fields (fault.field - 1)) fault.reason
