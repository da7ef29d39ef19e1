-- What the records of a plan say, each from its fields and from what came before it, or the first thing that is
-- wrong with one. Capital words are number fields; places are counted from 0.
use Rattle.std.specs.Prelude.{⊤, ℕ, ◌+◌, ◌*◌, ◌==◌, ◌&&◌, ◌||◌, not, Bool, true, false, nat_le, nat_lt, if◌then◌else◌, is_some, ok_or, Option, None, Some, Result, Ok, Err, List, length, codes}
use Rattle.pf_weight.specs.declared.base.TheConstants.{LARGEST_BASE}
use Rattle.pf_weight.specs.declared.task.TheConstants.{LARGEST_TASK}
use Rattle.pf_scenario.specs.System.{wide_horizon}
use Rattle.pf_scenario.specs.declared.settings.TheConstants.{MOST_PROCESSORS, LARGEST_CAP}
use Rattle.pf_scenario.specs.declared.event.Event.{Event}
use Rattle.pf_scenario.specs.declared.event.Event.TheVariants.{Join, Leave, Delay, Limit}
use Rattle.pf_scenario.specs.declared.change.Change.{Change}
use Rattle.pf_scenario.specs.declared.change.Change.TheVariants.{Insert, Alter, Strike}
use Rattle.pf_scenario.specs.declared.limits.TheConstants.{LARGEST_DISTANCE}
use Rattle.pf_vocabulary.specs.declared.names.named.Named.{Named}
use Rattle.pf_vocabulary.specs.declared.names.slot_length.TheConstants.{LARGEST_LENGTH}
use Rattle.pf_vocabulary.specs.Names.Names.{name_of, task_of}
use Rattle.pf_vocabulary.specs.Names.Slots.{unit_named}
use Rattle.pf_vocabulary.specs.Names.Text.{is_letter_first, is_text}
use Rattle.pf_script.specs.declared.line.Line.TheVariants.{Edit, Steps}
use Rattle.pf_script.specs.declared.version.Version.TheVariants.{Second}
use Rattle.pf_script.specs.Fields.{field, number, is_word}
use Rattle.pf_script.specs.declared.plan.fault.Reason.{Reason}
use Rattle.pf_script.specs.declared.plan.fault.Reason.TheVariants.{NoRecord, NoChange, NoEvent, NoSettings, LateSettings, LateSlot, NoNumber, NoCap, Outside, Fields, JoinFields, StepFields, SettingsFields, NoUnit, HasName, NoName, NameOf, NoTask, NoLabel, LabelTaken, LabelUnknown}
use Rattle.pf_script.specs.declared.plan.fault.RecordFault.{RecordFault}
use Rattle.pf_script.specs.declared.plan.labels.Labelled.{Labelled}
use Rattle.pf_script.specs.declared.plan.said.Said.{Said}
use Rattle.pf_script.specs.declared.plan.said.Said.TheVariants.{Settings, Slot, Name, Asks}
use Rattle.pf_script.specs.declared.plan.state.Progress.{Progress}
use Rattle.pf_script.specs.Plan.Labels.{number_of_label}

-- the second step from the first one's value, or the first one's fault
infixl 10 ◌>>=◌
abbrev pub ◌>>=◌ : {A B : Type 0} → Result A RecordFault → (A → Result B RecordFault) → Result B RecordFault
Ok a >>= f = f a
Err fault >>= f = Err fault

-- a fault of the field at a place
abbrev pub fault_at : ℕ → Reason → RecordFault
fault_at place reason = record { field = place + 1; reason = reason }

-- so many fields are expected, least to most: at fault is the first one that is missing or too much
abbrev pub of_length : List (List ℕ) → ℕ → ℕ → Reason → Result ⊤ RecordFault
of_length fields least most reason =
    if nat_lt (length fields) least then Err (fault_at (length fields) reason)
    else if nat_lt most (length fields) then Err (fault_at most reason)
    else Ok tt

-- a number is expected, for this reason
unfoldable pub number_or : Reason → List (List ℕ) → ℕ → Result ℕ RecordFault
number_or reason fields place = ok_or (number fields place) (fault_at place reason)

-- a number of 1 to most
abbrev pub within : ℕ → ℕ → ℕ → Result ℕ RecordFault
within place most n = if nat_le 1 n && nat_le n most then Ok n else Err (fault_at place (Outside n most))

-- a number of 1 to most is expected
unfoldable pub number_within : Reason → List (List ℕ) → ℕ → ℕ → Result ℕ RecordFault
number_within reason fields place most = do
  n ← number_or reason fields place
  within place most n

-- a task's name that was given, or a number
unfoldable pub task_at : List Named → List (List ℕ) → ℕ → Result ℕ RecordFault
task_at names fields place =
    if is_letter_first (field fields place) then ok_or (task_of names (field fields place)) (fault_at place NoTask)
    else number_or NoNumber fields place

-- the number of an event: that of a label, or a number
unfoldable pub id_at : List Labelled → List (List ℕ) → ℕ → Result ℕ RecordFault
id_at labels fields place =
    if is_letter_first (field fields place) then ok_or (number_of_label labels (field fields place)) (fault_at place LabelUnknown)
    else number_or NoNumber fields place

-- EARLY, which may be left out and is then 0
unfoldable pub early_at : List (List ℕ) → ℕ → Result ℕ RecordFault
early_at fields place = if nat_le (length fields) place then Ok 0 else number_or NoNumber fields place

-- `join,SLOT,TASK,COST,PERIOD` and perhaps `,EARLY`, its word at a place
unfoldable pub join_at : List Named → List (List ℕ) → ℕ → Result Event RecordFault
join_at names fields place = do
  _ ← of_length fields (place + 5) (place + 6) (JoinFields (place + 5))
  slot ← number_or NoNumber fields (place + 1)
  task ← task_at names fields (place + 2)
  cost ← number_or NoNumber fields (place + 3)
  period ← number_or NoNumber fields (place + 4)
  early ← early_at fields (place + 5)
  Ok (Join slot task cost period early)

-- `leave,SLOT,TASK`
unfoldable pub leave_at : List Named → List (List ℕ) → ℕ → Result Event RecordFault
leave_at names fields place = do
  _ ← of_length fields (place + 3) (place + 3) (Fields (place + 3))
  slot ← number_or NoNumber fields (place + 1)
  task ← task_at names fields (place + 2)
  Ok (Leave slot task)

-- `delay,SLOT,TASK,BY`
unfoldable pub delay_at : List Named → List (List ℕ) → ℕ → Result Event RecordFault
delay_at names fields place = do
  _ ← of_length fields (place + 4) (place + 4) (Fields (place + 4))
  slot ← number_or NoNumber fields (place + 1)
  task ← task_at names fields (place + 2)
  by ← number_or NoNumber fields (place + 3)
  Ok (Delay slot task by)

-- `limit,SLOT,COUNT`
unfoldable pub limit_at : List (List ℕ) → ℕ → Result Event RecordFault
limit_at fields place = do
  _ ← of_length fields (place + 3) (place + 3) (Fields (place + 3))
  slot ← number_or NoNumber fields (place + 1)
  count ← number_or NoNumber fields (place + 2)
  Ok (Limit slot count)

-- an event, its word at a place; `none` is why it would be none
unfoldable pub event_at : List Named → Reason → List (List ℕ) → ℕ → Result Event RecordFault
event_at names none fields place =
    if is_word fields place (codes "join") then join_at names fields place
    else if is_word fields place (codes "leave") then leave_at names fields place
    else if is_word fields place (codes "delay") then delay_at names fields place
    else if is_word fields place (codes "limit") then limit_at fields place
    else Err (fault_at place none)

-- `strike,ID`
unfoldable pub strike_at : Progress → List (List ℕ) → ℕ → Result Change RecordFault
strike_at p fields place = do
  _ ← of_length fields (place + 2) (place + 2) (Fields (place + 2))
  id ← id_at p.labels fields (place + 1)
  Ok (Strike id)

-- `alter,ID,` and an event
unfoldable pub alter_at : Progress → List (List ℕ) → ℕ → Result Change RecordFault
alter_at p fields place = do
  id ← id_at p.labels fields (place + 1)
  event ← event_at p.names NoEvent fields (place + 2)
  Ok (Alter id event)

-- a label that was not given yet
unfoldable pub label_at : List Labelled → List (List ℕ) → ℕ → Result (List ℕ) RecordFault
label_at labels fields place =
    if not (is_text (field fields place)) then Err (fault_at place NoLabel)
    else if is_some (number_of_label labels (field fields place)) then Err (fault_at place LabelTaken)
    else Ok (field fields place)

-- a label that was given
unfoldable pub given_label_at : List Labelled → List (List ℕ) → ℕ → Result (List ℕ) RecordFault
given_label_at labels fields place =
    if not (is_text (field fields place)) then Err (fault_at place NoLabel)
    else if is_some (number_of_label labels (field fields place)) then Ok (field fields place)
    else Err (fault_at place LabelUnknown)

-- an event that goes by a label
abbrev pub labelled : Bool → List ℕ → Event → Said
labelled strict label event = Asks (Edit (Insert event) strict) (Some label)

-- `label,TEXT,` and an event
unfoldable pub first_labelled_at : Progress → Bool → List (List ℕ) → ℕ → Result Said RecordFault
first_labelled_at p strict fields place = do
  label ← label_at p.labels fields (place + 1)
  event ← event_at p.names NoEvent fields (place + 2)
  Ok (labelled strict label event)

-- `label,TEXT,again,` and an event
unfoldable pub labelled_again_at : Progress → Bool → List (List ℕ) → ℕ → Result Said RecordFault
labelled_again_at p strict fields place = do
  label ← given_label_at p.labels fields (place + 1)
  event ← event_at p.names NoEvent fields (place + 3)
  Ok (labelled strict label event)

-- a labelled event
unfoldable pub labelled_at : Progress → Bool → List (List ℕ) → ℕ → Result Said RecordFault
labelled_at p strict fields place =
    if is_word fields (place + 2) (codes "again") then labelled_again_at p strict fields place else first_labelled_at p strict fields place

-- a change without a label
abbrev pub asked : Bool → Change → Said
asked strict change = Asks (Edit change strict) None

-- a strike, an alter, a labelled event or an event to insert, strict or not
unfoldable pub edit_at : Progress → Bool → Reason → List (List ℕ) → ℕ → Result Said RecordFault
edit_at p strict none fields place =
    if is_word fields place (codes "strike") then (strike_at p fields place >>= λ change. Ok (asked strict change))
    else if is_word fields place (codes "alter") then (alter_at p fields place >>= λ change. Ok (asked strict change))
    else if is_word fields place (codes "label") then labelled_at p strict fields place
    else (event_at p.names none fields place >>= λ event. Ok (asked strict (Insert event)))

-- `step`, or `step,N` with N from 1 to the horizon
unfoldable pub steps_at : List (List ℕ) → Result Said RecordFault
steps_at fields =
    if length fields == 1 then Ok (Asks (Steps 1) None)
    else if length fields == 2 then (number_within NoNumber fields 1 wide_horizon >>= λ count. Ok (Asks (Steps count) None))
    else Err (fault_at 2 StepFields)

-- `slot,LENGTH,UNIT`, once, before all changes and steps
unfoldable pub slot_at : Progress → List (List ℕ) → Result Said RecordFault
slot_at p fields =
    if is_some p.slot || p.begun then Err (fault_at 0 LateSlot)
    else do
      _ ← of_length fields 3 3 (Fields 3)
      length ← number_within NoNumber fields 1 LARGEST_LENGTH
      unit ← ok_or (unit_named (field fields 2)) (fault_at 2 NoUnit)
      Ok (Slot (record { length = length; unit = unit }))

-- a task that has no name yet
unfoldable pub nameless_at : List Named → List (List ℕ) → Result ℕ RecordFault
nameless_at names fields = do
  task ← number_within NoNumber fields 1 LARGEST_TASK
  if is_some (name_of names task) then Err (fault_at 1 (HasName task)) else Ok task

-- a name that no task has yet
abbrev pub name_unless : List ℕ → Option ℕ → Result (List ℕ) RecordFault
name_unless name None = Ok name
name_unless name (Some task) = Err (fault_at 2 (NameOf task))

unfoldable pub free_name_at : List Named → List (List ℕ) → Result (List ℕ) RecordFault
free_name_at names fields =
    if not (is_text (field fields 2)) then Err (fault_at 2 NoName) else name_unless (field fields 2) (task_of names (field fields 2))

-- `name,TASK,TEXT`
unfoldable pub name_at : List Named → List (List ℕ) → Result Said RecordFault
name_at names fields = do
  _ ← of_length fields 3 3 (Fields 3)
  task ← nameless_at names fields
  name ← free_name_at names fields
  Ok (Name task name)

-- a record after the settings
unfoldable pub record_at : Progress → List (List ℕ) → Result Said RecordFault
record_at p fields =
    if is_word fields 0 (codes "step") then steps_at fields
    else if is_word fields 0 (codes "strict") then edit_at p true NoChange fields 1
    else if is_word fields 0 (codes "settings") then Err (fault_at 0 LateSettings)
    else if is_word fields 0 (codes "slot") then slot_at p fields
    else if is_word fields 0 (codes "name") then name_at p.names fields
    else edit_at p false NoRecord fields 0

-- CAP, which is `full` where it is left out
unfoldable pub cap_at : List (List ℕ) → ℕ → Result ℕ RecordFault
cap_at fields full =
    if nat_le (length fields) 3 || is_word fields 3 (codes "full") then Ok full else number_within NoCap fields 3 LARGEST_CAP

-- EVERY, which is 64 where it is left out
unfoldable pub every_at : List (List ℕ) → Result ℕ RecordFault
every_at fields = if nat_le (length fields) 4 then Ok 64 else number_within NoNumber fields 4 LARGEST_DISTANCE

-- `settings,M,BASE`, and perhaps `,CAP` and `,EVERY`
unfoldable pub settings_at : List (List ℕ) → Result Said RecordFault
settings_at fields = do
  _ ← of_length fields 3 5 SettingsFields
  processors ← number_within NoNumber fields 1 MOST_PROCESSORS
  base ← number_within NoNumber fields 2 LARGEST_BASE
  cap ← cap_at fields (processors * base)
  every ← every_at fields
  Ok (Settings (record {
    version = Second;
    settings = record { processors = processors; base = base; cap = cap; horizon = wide_horizon };
    every = every;
  }))

-- whether the first field names a record that may follow the settings
unfoldable pub names_record : List (List ℕ) → Bool
names_record fields =
    is_word fields 0 (codes "slot") || is_word fields 0 (codes "name") || is_word fields 0 (codes "join") || is_word fields 0 (codes "leave")
    || is_word fields 0 (codes "delay") || is_word fields 0 (codes "limit") || is_word fields 0 (codes "label")
    || is_word fields 0 (codes "alter") || is_word fields 0 (codes "strike") || is_word fields 0 (codes "strict")
    || is_word fields 0 (codes "step")

-- the settings are expected
unfoldable pub opening_at : List (List ℕ) → Result Said RecordFault
opening_at fields =
    if is_word fields 0 (codes "settings") then settings_at fields
    else if names_record fields then Err (fault_at 0 NoSettings)
    else Err (fault_at 0 NoRecord)

-- what a record after the heading says
abbrev pub said_at : Progress → List (List ℕ) → Result Said RecordFault
said_at p fields = if p.opened then record_at p fields else opening_at fields

-- what a script lacks that ends here
abbrev pub end_fault : Progress → Option RecordFault
end_fault p = if p.opened then None else Some (fault_at 0 NoSettings)
