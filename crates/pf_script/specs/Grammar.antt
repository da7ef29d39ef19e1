-- The lines of a script, each from the fields of its record. Capital words are number fields.
use Rattle.std.specs.Prelude.{ℕ, Bool, true, false, ◌&&◌, List, drop, Option, Some, None, option_map, option_and_then, nat_le, if◌then◌else◌, codes}
use Rattle.pf_scenario.specs.System.{near_horizon, wide_horizon}
use Rattle.pf_scenario.specs.declared.event.Event.{Event}
use Rattle.pf_scenario.specs.declared.event.Event.TheVariants.{Join, Leave, Delay, Limit}
use Rattle.pf_scenario.specs.declared.change.Change.{Change}
use Rattle.pf_scenario.specs.declared.change.Change.TheVariants.{Insert, Alter, Strike}
use Rattle.pf_script.specs.declared.version.Version.{Version}
use Rattle.pf_script.specs.declared.version.Version.TheVariants.{First, Second}
use Rattle.pf_script.specs.declared.line.Line.{Line}
use Rattle.pf_script.specs.declared.line.Line.TheVariants.{Edit, Steps}
use Rattle.pf_script.specs.declared.line.Opening.{Opening}
use Rattle.pf_script.specs.Fields.{number, is_word, is_record_of}

-- the second step from the first one's value; none where the first gives none
infixl 10 ◌>>=◌
abbrev pub ◌>>=◌ : {A B : Type 0} → Option A → (A → Option B) → Option B
o >>= f = option_and_then f o

-- the number of slots that a script of this version can step
abbrev pub horizon_of : Version → ℕ
horizon_of First = near_horizon
horizon_of Second = wide_horizon

-- only version 2 has limits
abbrev pub has_limits : Version → Bool
has_limits First = false
has_limits Second = true

-- `pfair,2`: what a script of version 2 begins with
unfoldable pub is_heading : List (List ℕ) → Bool
is_heading fields = is_record_of fields (codes "pfair") 2 && is_word fields 1 (codes "2")

-- the four numbers of `settings,M,BASE,CAP,EVERY`
unfoldable pub settings_of : List (List ℕ) → Option Opening
settings_of fields = do
  processors ← number fields 1
  base ← number fields 2
  cap ← number fields 3
  every ← number fields 4
  Some (record { processors = processors; base = base; cap = cap; every = every })

-- `settings,M,BASE,CAP,EVERY`
unfoldable pub opening_of : List (List ℕ) → Option Opening
opening_of fields = if is_record_of fields (codes "settings") 5 then settings_of fields else None

-- the numbers of `join,SLOT,TASK,COST,PERIOD,EARLY`
unfoldable pub join_of_fields : List (List ℕ) → Option Event
join_of_fields fields = do
  slot ← number fields 1
  task ← number fields 2
  cost ← number fields 3
  period ← number fields 4
  early ← number fields 5
  Some (Join slot task cost period early)

-- the numbers of `leave,SLOT,TASK`
unfoldable pub leave_of : List (List ℕ) → Option Event
leave_of fields = do
  slot ← number fields 1
  task ← number fields 2
  Some (Leave slot task)

-- the numbers of `delay,SLOT,TASK,BY`
unfoldable pub delay_of : List (List ℕ) → Option Event
delay_of fields = do
  slot ← number fields 1
  task ← number fields 2
  by ← number fields 3
  Some (Delay slot task by)

-- the numbers of `limit,SLOT,COUNT`
unfoldable pub limit_of : List (List ℕ) → Option Event
limit_of fields = do
  slot ← number fields 1
  count ← number fields 2
  Some (Limit slot count)

-- a join, a leave, a delay or, in version 2, a limit
unfoldable pub event_of : Version → List (List ℕ) → Option Event
event_of version fields =
    if is_record_of fields (codes "join") 6 then join_of_fields fields
    else if is_record_of fields (codes "leave") 3 then leave_of fields
    else if is_record_of fields (codes "delay") 4 then delay_of fields
    else if has_limits version && is_record_of fields (codes "limit") 3 then limit_of fields
    else None

-- the number of `strike,ID`
unfoldable pub strike_of : List (List ℕ) → Option Change
strike_of fields = option_map (λ id. Strike id) (number fields 1)

-- `alter,ID,` and the fields of an event
unfoldable pub alter_of : Version → List (List ℕ) → Option Change
alter_of version fields = do
  id ← number fields 1
  event ← event_of version (drop 2 fields)
  Some (Alter id event)

-- a strike, an alter, or an event to insert
unfoldable pub change_of : Version → List (List ℕ) → Option Change
change_of version fields =
    if is_record_of fields (codes "strike") 2 then strike_of fields
    else if is_word fields 0 (codes "alter") then alter_of version fields
    else option_map (λ event. Insert event) (event_of version fields)

-- `step,N`, with N from 1 to the horizon
unfoldable pub steps_of : Version → List (List ℕ) → Option Line
steps_of version fields = do
  count ← number fields 1
  if nat_le 1 count && nat_le count (horizon_of version) then Some (Steps count) else None

-- a change, strict or not
unfoldable pub edit_of : Version → Bool → List (List ℕ) → Option Line
edit_of version strict fields = option_map (λ change. Edit change strict) (change_of version fields)

-- `step`, `step,N`, `strict,` and the fields of a change, or a change
unfoldable pub line_of : Version → List (List ℕ) → Option Line
line_of version fields =
    if is_record_of fields (codes "step") 1 then Some (Steps 1)
    else if is_record_of fields (codes "step") 2 then steps_of version fields
    else if is_word fields 0 (codes "strict") then edit_of version true (drop 1 fields)
    else edit_of version false fields
