-- The task that a row of a list is, or the first thing that is wrong with it.
use Rattle.std.specs.Prelude.{ℕ, ◌+◌, ◌==◌, ◌&&◌, ◌||◌, Bool, true, false, nat_lt, if◌then◌else◌, Option, None, Some, is_none, Result, Ok, Err, List, [], ◌∷◌, length}
use Rattle.std.specs.Str.{bytes_eq}
use Rattle.pf_convert.specs.declared.timed.Timed.{Timed}
use Rattle.pf_vocabulary.specs.Names.Text.{name_in}
use Rattle.pf_vocabulary.specs.declared.names.unit.Unit.{Unit}
use Rattle.pf_vocabulary.specs.declared.names.unit.Unit.TheVariants.{Millisecond}
use Rattle.pf_text.specs.Rows.Rows.{Row}
use Rattle.pf_weight.specs.declared.task.TheConstants.{LARGEST_TASK}
use Rattle.pf_convert.specs.declared.list.column.Column.{Column}
use Rattle.pf_convert.specs.declared.list.column.Column.TheVariants.{Name, Work, Every, Deadline, First, Early}
use Rattle.pf_convert.specs.declared.list.fault.TaskFault.{TaskFault}
use Rattle.pf_convert.specs.declared.list.fault.TaskFault.TheVariants.{TooFew, TooMany, NoName, NameTaken, Time, LateDeadline}
use Rattle.pf_convert.specs.declared.list.fault.HeadingFault.{HeadingFault}
use Rattle.pf_convert.specs.declared.list.heading.Heading.{Heading}
use Rattle.pf_convert.specs.declared.list.listed.Listed.{Listed}
use Rattle.pf_convert.specs.declared.list.time.TimeFault.{TimeFault}
use Rattle.pf_convert.specs.declared.list.time.TimeFault.TheVariants.{NoUnit, Zero}
use Rattle.pf_convert.specs.declared.list.unit_rule.UnitRule.{UnitRule}
use Rattle.pf_convert.specs.List.Heading.{field_in, heading_in}
use Rattle.pf_convert.specs.List.Times.{◌>>=◌, carried_unit, carries_unit, time_in}

-- a time, or a fault of a column
abbrev pub at_column : Column → Result ℕ TimeFault → Result ℕ TaskFault
at_column column (Ok time) = Ok time
at_column column (Err fault) = Err (Time column fault)

abbrev pub above_zero : Column → ℕ → Result ℕ TaskFault
above_zero column time = if time == 0 then Err (Time column Zero) else Ok time

-- a time above 0 that carries no unit has to carry one by this rule
abbrev pub lacks_unit : UnitRule → List ℕ → ℕ → Bool
lacks_unit rule field time = rule.is_needed && nat_lt 0 time && is_none (carried_unit field)

abbrev pub with_unit : UnitRule → List ℕ → ℕ → Result ℕ TimeFault
with_unit rule field time = if lacks_unit rule field time then Err NoUnit else Ok time

-- a time of a list
unfoldable pub list_time : UnitRule → List ℕ → Result ℕ TimeFault
list_time rule field = time_in rule.assumed field >>= with_unit rule field

-- a time above 0
unfoldable pub needed_time : UnitRule → Column → List ℕ → Result ℕ TaskFault
needed_time rule column field = at_column column (list_time rule field) >>= above_zero column

-- a time, 0 where the field is empty
unfoldable pub optional_time : UnitRule → Column → List ℕ → Result ℕ TaskFault
optional_time rule column field = if length field == 0 then Ok 0 else at_column column (list_time rule field)

-- a deadline above 0 and at most the time between two jobs, none where the field is empty
abbrev pub due_before : ℕ → ℕ → Result (Option ℕ) TaskFault
due_before every due = if nat_lt every due then Err LateDeadline else Ok (Some due)

unfoldable pub deadline_in : UnitRule → ℕ → List ℕ → Result (Option ℕ) TaskFault
deadline_in rule every field = if length field == 0 then Ok None else needed_time rule Deadline field >>= due_before every

-- the times of a row
unfoldable pub times_in : UnitRule → Heading → List (List ℕ) → Result Timed TaskFault
times_in rule h fields = do
  work ← needed_time rule Work (field_in Work h fields)
  every ← needed_time rule Every (field_in Every h fields)
  deadline ← deadline_in rule every (field_in Deadline h fields)
  first ← optional_time rule First (field_in First h fields)
  early ← optional_time rule Early (field_in Early h fields)
  Ok (record { work = work; every = every; deadline = deadline; first = first; early = early })

-- the line of the first of these tasks with the name
unfoldable pub line_of : List Listed → List ℕ → Option ℕ
line_of [] name = None
line_of (task ∷ tasks) name = if bytes_eq task.name name then Some task.line else line_of tasks name

-- the line of the name `other` where a task with this name and line comes after those among which it was this
abbrev pub line_with : Option ℕ → List ℕ → ℕ → List ℕ → Option ℕ
line_with (Some first) name line other = Some first
line_with None name line other = if bytes_eq name other then Some line else None

-- a name that none of these tasks has
abbrev pub free_name : List ℕ → Option ℕ → Result (List ℕ) TaskFault
free_name name None = Ok name
free_name name (Some line) = Err (NameTaken line)

abbrev pub name_or_fault : List Listed → Option (List ℕ) → Result (List ℕ) TaskFault
name_or_fault tasks None = Err NoName
name_or_fault tasks (Some name) = free_name name (line_of tasks name)

-- the name that a field gives to a task after these tasks
abbrev pub name_for : List Listed → List ℕ → Result (List ℕ) TaskFault
name_for tasks field = name_or_fault tasks (name_in field)

-- a row has as many fields as the heading, or one of these faults
abbrev pub count_fault : Heading → List (List ℕ) → Option TaskFault
count_fault h fields =
    if nat_lt (length fields) h.count then Some (TooFew (length fields))
    else if nat_lt h.count (length fields) then Some (TooMany h.count)
    else None

abbrev pub task_or_fault : UnitRule → Heading → List Listed → ℕ → List (List ℕ) → Option TaskFault → Result Listed TaskFault
task_or_fault rule h tasks line fields (Some fault) = Err fault
task_or_fault rule h tasks line fields None = do
  name ← name_for tasks (field_in Name h fields)
  times ← times_in rule h fields
  Ok (record { line = line; name = name; times = times; unit = carried_unit (field_in Every h fields) })

-- the task that a row of this line is, after these tasks
unfoldable pub task_in : UnitRule → Heading → List Listed → ℕ → List (List ℕ) → Result Listed TaskFault
task_in rule h tasks line fields = task_or_fault rule h tasks line fields (count_fault h fields)

-- whether a field of a column of times is a time that carries a unit
abbrev pub column_carries : Heading → List (List ℕ) → Column → Bool
column_carries h fields column = carries_unit (field_in column h fields)

-- whether a row with as many fields as the heading has such a field
unfoldable pub row_carries : Heading → List (List ℕ) → Bool
row_carries h fields =
    (length fields == h.count)
    && (column_carries h fields Work || column_carries h fields Every || column_carries h fields Deadline || column_carries h fields First
    || column_carries h fields Early)

-- whether one of the rows does, of which so many others come before these; those after as many as there may be are not looked at
unfoldable pub rows_carry : Heading → ℕ → List Row → Bool
rows_carry h count [] = false
rows_carry h count (row ∷ rows) =
    if count == LARGEST_TASK then false
    else if row_carries h row.fields then true
    else rows_carry h (count + 1) rows

abbrev pub carry_under : List Row → Result Heading HeadingFault → Bool
carry_under rows (Ok h) = rows_carry h 0 rows
carry_under rows (Err fault) = false

-- whether a time of a list of these rows carries a unit
abbrev pub list_carries : List Row → Bool
list_carries [] = false
list_carries (row ∷ rows) = carry_under rows (heading_in row.fields)

-- the rule where a unit is given, or none is: then times above 0 carry a unit where one does
abbrev pub rule_for : Option Unit → List Row → UnitRule
rule_for (Some unit) rows = record { assumed = unit; is_needed = false }
rule_for None rows = record { assumed = Millisecond; is_needed = list_carries rows }
