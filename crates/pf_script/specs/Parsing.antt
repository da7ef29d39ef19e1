-- What the records of a script say, each from its fields, or the first thing that is wrong with one. Capital words are number
-- fields; places are counted from 0.
use Rattle.std.specs.Prelude.{⊤, ℕ, ◌+◌, ◌==◌, ◌&&◌, ◌||◌, Bool, true, false, min, nat_le, if◌then◌else◌, ok_or, Result, Ok, Err, List, length, codes}
use Rattle.pf_weight.specs.declared.base.TheConstants.{LARGEST_BASE}
use Rattle.pf_scenario.specs.declared.settings.TheConstants.{MOST_PROCESSORS, LARGEST_CAP}
use Rattle.pf_scenario.specs.declared.event.Event.{Event}
use Rattle.pf_scenario.specs.declared.event.Event.TheVariants.{Join, Leave, Delay, Limit}
use Rattle.pf_scenario.specs.declared.change.Change.{Change}
use Rattle.pf_scenario.specs.declared.change.Change.TheVariants.{Insert, Alter, Strike}
use Rattle.pf_scenario.specs.declared.limits.TheConstants.{LARGEST_DISTANCE}
use Rattle.pf_script.specs.declared.fault.Reason.{Reason}
use Rattle.pf_script.specs.declared.fault.Reason.TheVariants.{NoRecord, NoChange, NoEvent, NoSettings, LateSettings, NoVersion, NoNumber, Outside, Fields, StepFields}
use Rattle.pf_script.specs.declared.fault.RecordFault.{RecordFault}
use Rattle.pf_script.specs.declared.line.Line.{Line}
use Rattle.pf_script.specs.declared.line.Line.TheVariants.{Edit, Steps}
use Rattle.pf_script.specs.declared.record.Record.{Record}
use Rattle.pf_script.specs.declared.record.Record.TheVariants.{Heading, Settings, Asks}
use Rattle.pf_script.specs.declared.stage.Stage.{Stage}
use Rattle.pf_script.specs.declared.stage.Stage.TheVariants.{Beginning, Headed, Opened}
use Rattle.pf_script.specs.declared.version.Version.{Version}
use Rattle.pf_script.specs.declared.version.Version.TheVariants.{First, Second}
use Rattle.pf_script.specs.Fields.{number, is_word}
use Rattle.pf_script.specs.Grammar.{horizon_of, has_limits}

-- the second step from the first one's value, or the first one's fault
infixl 10 ◌>>=◌
abbrev pub ◌>>=◌ : {A B : Type 0} → Result A RecordFault → (A → Result B RecordFault) → Result B RecordFault
Ok a >>= f = f a
Err fault >>= f = Err fault

-- a fault of the field at a place
abbrev pub fault_at : ℕ → Reason → RecordFault
fault_at place reason = record { field = place + 1; reason = reason }

-- so many fields are expected: at fault is the first one that is missing or too much
abbrev pub of_length : List (List ℕ) → ℕ → Result ⊤ RecordFault
of_length fields count = if length fields == count then Ok tt else Err (fault_at (min (length fields) count) (Fields count))

-- a number is expected
unfoldable pub number_at : List (List ℕ) → ℕ → Result ℕ RecordFault
number_at fields place = ok_or (number fields place) (fault_at place NoNumber)

-- a number of 1 to most is expected
unfoldable pub number_within : List (List ℕ) → ℕ → ℕ → Result ℕ RecordFault
number_within fields place most = do
  n ← number_at fields place
  if nat_le 1 n && nat_le n most then Ok n else Err (fault_at place (Outside n most))

-- `join,SLOT,TASK,COST,PERIOD,EARLY`, its word at a place
unfoldable pub join_at : List (List ℕ) → ℕ → Result Event RecordFault
join_at fields place = do
  _ ← of_length fields (place + 6)
  slot ← number_at fields (place + 1)
  task ← number_at fields (place + 2)
  cost ← number_at fields (place + 3)
  period ← number_at fields (place + 4)
  early ← number_at fields (place + 5)
  Ok (Join slot task cost period early)

-- `leave,SLOT,TASK`
unfoldable pub leave_at : List (List ℕ) → ℕ → Result Event RecordFault
leave_at fields place = do
  _ ← of_length fields (place + 3)
  slot ← number_at fields (place + 1)
  task ← number_at fields (place + 2)
  Ok (Leave slot task)

-- `delay,SLOT,TASK,BY`
unfoldable pub delay_at : List (List ℕ) → ℕ → Result Event RecordFault
delay_at fields place = do
  _ ← of_length fields (place + 4)
  slot ← number_at fields (place + 1)
  task ← number_at fields (place + 2)
  by ← number_at fields (place + 3)
  Ok (Delay slot task by)

-- `limit,SLOT,COUNT`
unfoldable pub limit_at : List (List ℕ) → ℕ → Result Event RecordFault
limit_at fields place = do
  _ ← of_length fields (place + 3)
  slot ← number_at fields (place + 1)
  count ← number_at fields (place + 2)
  Ok (Limit slot count)

-- an event, its word at a place; `none` is why it would be none
unfoldable pub event_at : Version → Reason → List (List ℕ) → ℕ → Result Event RecordFault
event_at version none fields place =
    if is_word fields place (codes "join") then join_at fields place
    else if is_word fields place (codes "leave") then leave_at fields place
    else if is_word fields place (codes "delay") then delay_at fields place
    else if has_limits version && is_word fields place (codes "limit") then limit_at fields place
    else Err (fault_at place none)

-- `strike,ID`
unfoldable pub strike_at : List (List ℕ) → ℕ → Result Change RecordFault
strike_at fields place = do
  _ ← of_length fields (place + 2)
  id ← number_at fields (place + 1)
  Ok (Strike id)

-- `alter,ID,` and an event
unfoldable pub alter_at : Version → List (List ℕ) → ℕ → Result Change RecordFault
alter_at version fields place = do
  id ← number_at fields (place + 1)
  event ← event_at version (NoEvent version) fields (place + 2)
  Ok (Alter id event)

-- a strike, an alter, or an event to insert
unfoldable pub change_at : Version → Reason → List (List ℕ) → ℕ → Result Change RecordFault
change_at version none fields place =
    if is_word fields place (codes "strike") then strike_at fields place
    else if is_word fields place (codes "alter") then alter_at version fields place
    else (event_at version none fields place >>= λ event. Ok (Insert event))

-- a change, strict or not
unfoldable pub edit_at : Version → Bool → Reason → List (List ℕ) → ℕ → Result Line RecordFault
edit_at version strict none fields place = do
  change ← change_at version none fields place
  Ok (Edit change strict)

-- `step`, or `step,N` with N from 1 to the horizon
unfoldable pub steps_at : Version → List (List ℕ) → Result Line RecordFault
steps_at version fields =
    if length fields == 1 then Ok (Steps 1)
    else if length fields == 2 then (number_within fields 1 (horizon_of version) >>= λ count. Ok (Steps count))
    else Err (fault_at 2 StepFields)

-- a record after the settings: steps, a strict change, or a change
unfoldable pub line_at : Version → List (List ℕ) → Result Line RecordFault
line_at version fields =
    if is_word fields 0 (codes "step") then steps_at version fields
    else if is_word fields 0 (codes "strict") then edit_at version true (NoChange version) fields 1
    else if is_word fields 0 (codes "settings") then Err (fault_at 0 LateSettings)
    else edit_at version false (NoRecord version) fields 0

-- `settings,M,BASE,CAP,EVERY`, each number within its limits
unfoldable pub settings_at : Version → List (List ℕ) → Result Record RecordFault
settings_at version fields = do
  _ ← of_length fields 5
  processors ← number_within fields 1 MOST_PROCESSORS
  base ← number_within fields 2 LARGEST_BASE
  cap ← number_within fields 3 LARGEST_CAP
  every ← number_within fields 4 LARGEST_DISTANCE
  Ok (Settings (record {
    version = version;
    settings = record { processors = processors; base = base; cap = cap; horizon = horizon_of version };
    every = every;
  }))

-- whether the first field names a record that may follow the settings
unfoldable pub names_line : Version → List (List ℕ) → Bool
names_line version fields =
    is_word fields 0 (codes "join") || is_word fields 0 (codes "leave") || is_word fields 0 (codes "delay")
    || (has_limits version && is_word fields 0 (codes "limit")) || is_word fields 0 (codes "alter")
    || is_word fields 0 (codes "strike") || is_word fields 0 (codes "strict") || is_word fields 0 (codes "step")

-- the settings are expected
unfoldable pub opening_at : Version → List (List ℕ) → Result Record RecordFault
opening_at version fields =
    if is_word fields 0 (codes "settings") then settings_at version fields
    else if names_line version fields then Err (fault_at 0 NoSettings)
    else Err (fault_at 0 (NoRecord version))

-- the heading `pfair,2` is expected
unfoldable pub heading_at : List (List ℕ) → Result Record RecordFault
heading_at fields = do
  _ ← of_length fields 2
  if is_word fields 1 (codes "2") then Ok Heading else Err (fault_at 1 NoVersion)

-- what a record says that comes at a stage of a script
unfoldable pub record_at : Stage → List (List ℕ) → Result Record RecordFault
record_at Beginning fields = if is_word fields 0 (codes "pfair") then heading_at fields else opening_at First fields
record_at Headed fields = opening_at Second fields
record_at (Opened version) fields = do
  line ← line_at version fields
  Ok (Asks line)
