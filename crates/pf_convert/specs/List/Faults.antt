-- The messages of what is wrong with a list.
use Rattle.std.specs.Prelude.{ℕ, ◌==◌, ◌-◌, ◌&&◌, Bool, false, if◌then◌else◌, Option, None, Some, List, [], ◌++◌, length, codes, slice_index_or}
use Rattle.std.specs.Fmt.{decimal}
use Rattle.pf_text.specs.Rows.Rows.{Row}
use Rattle.pf_text.specs.Quoted.{quoted}
use Rattle.pf_weight.specs.declared.task.TheConstants.{LARGEST_TASK}
use Rattle.pf_convert.specs.declared.list.column.Column.{Column}
use Rattle.pf_convert.specs.declared.list.column.Column.TheVariants.{Name, Deadline, Every}
use Rattle.pf_convert.specs.declared.list.fault.FileFault.{FileFault}
use Rattle.pf_convert.specs.declared.list.fault.FileFault.TheVariants.{Utf16, NoText, Empty, NoRecord, NoList}
use Rattle.pf_convert.specs.declared.list.fault.HeadingFault.{HeadingFault}
use Rattle.pf_convert.specs.declared.list.fault.HeadingFault.TheVariants.{NoColumn, Twice, Missing}
use Rattle.pf_convert.specs.declared.list.fault.TaskFault.{TaskFault}
use Rattle.pf_convert.specs.declared.list.fault.TaskFault.TheVariants.{TooFew, TooMany, NoName, NameTaken, Time, LateDeadline}
use Rattle.pf_convert.specs.declared.list.heading.Heading.{Heading}
use Rattle.pf_convert.specs.List.Heads.{Head}
use Rattle.pf_convert.specs.declared.list.place.Place.TheVariants.{Start, Field, End}
use Rattle.pf_convert.specs.declared.list.time.TimeFault.{TimeFault}
use Rattle.pf_convert.specs.declared.list.time.TimeFault.TheVariants.{NoTime, TooFine, NoUnit, Zero}
use Rattle.pf_convert.specs.List.Heading.{column_word, field_in, field_number, is_word, joined_names, number_of}
use Rattle.pf_convert.specs.List.Hints.{column_hint, fit_hint, name_hint, quote_hint, surplus_hint, time_hint}
use Rattle.pf_convert.specs.List.Messages.{Told}

-- why a row is no heading, of its field that is at fault
abbrev pub twice_reason : List ℕ → Column → List ℕ
twice_reason field column =
    if is_word field (column_word column) then quoted field ++ codes " stands twice"
    else quoted field ++ codes " stands twice, as " ++ column_word column

unfoldable pub heading_reason : List (List ℕ) → HeadingFault → List ℕ
heading_reason fields (NoColumn number) = quoted (slice_index_or fields (number - 1) []) ++ codes " is no column: name, work, every, deadline, first, early"
heading_reason fields (Twice number column) = twice_reason (slice_index_or fields (number - 1) []) column
heading_reason fields (Missing number column) = codes "the column " ++ column_word column ++ codes " is missing"

abbrev pub heading_number : HeadingFault → ℕ
heading_number (NoColumn number) = number
heading_number (Twice number column) = number
heading_number (Missing number column) = number

abbrev pub heading_hint : List (List ℕ) → HeadingFault → List ℕ
heading_hint fields (NoColumn number) = column_hint (slice_index_or fields (number - 1) [])
heading_hint fields (Twice number column) = []
heading_hint fields (Missing number column) = []

-- of a row that is no heading
abbrev pub heading_message : Row → HeadingFault → Told
heading_message row fault = record {
  place = Field row.line (heading_number fault);
  text = heading_reason row.fields fault;
  hint = heading_hint row.fields fault;
}

-- why a field is no time
unfoldable pub time_reason : List ℕ → TimeFault → List ℕ
time_reason field NoTime = quoted field ++ codes " is no time: up to 9 digits on each side of a point, and ns, us, ms, s or nothing"
time_reason field TooFine = quoted field ++ codes " is finer than a nanosecond"
time_reason field NoUnit = quoted field ++ codes " has no unit, and other times have one"
time_reason field Zero = codes "a time above 0 is expected"

-- why a field is no name
unfoldable pub no_name_reason : List ℕ → List ℕ
no_name_reason field = quoted field ++ codes " is no name: a letter, then up to 23 letters, digits, spaces, _ - . +"

unfoldable pub name_taken_reason : List ℕ → ℕ → List ℕ
name_taken_reason field line = quoted field ++ codes " is the name of line " ++ decimal line ++ codes " already"

unfoldable pub late_reason : List ℕ → List ℕ → List ℕ
late_reason due every = quoted due ++ codes " is above every, " ++ quoted every

-- why a row is no task, of a column with its name
abbrev pub task_reason : Head → List (List ℕ) → TaskFault → List ℕ
task_reason head fields (TooFew count) =
    slice_index_or head.names count [] ++ codes " is missing: " ++ joined_names head.names
task_reason head fields (TooMany count) = codes "a field too much: " ++ joined_names head.names
task_reason head fields NoName = codes "name: " ++ no_name_reason (field_in Name head.heading fields)
task_reason head fields (NameTaken line) = codes "name: " ++ name_taken_reason (field_in Name head.heading fields) line
task_reason head fields (Time column fault) = column_word column ++ codes ": " ++ time_reason (field_in column head.heading fields) fault
task_reason head fields LateDeadline = codes "deadline: " ++ late_reason (field_in Deadline head.heading fields) (field_in Every head.heading fields)

abbrev pub task_number : Heading → TaskFault → ℕ
task_number h (TooFew count) = field_number count
task_number h (TooMany count) = field_number count
task_number h NoName = number_of Name h
task_number h (NameTaken line) = number_of Name h
task_number h (Time column fault) = number_of column h
task_number h LateDeadline = number_of Deadline h

-- whether the list ends within the last quotes of a row
abbrev pub is_line_of : Option ℕ → ℕ → Bool
is_line_of None line = false
is_line_of (Some other) line = other == line

abbrev pub is_open_row : Head → Row → Bool
is_open_row head row = is_line_of head.open_line row.line

-- whether it ends within those of this field
abbrev pub is_open_field : Head → Row → Column → Bool
is_open_field head row column = is_open_row head row && (number_of column head.heading == length row.fields)

abbrev pub task_hint : Head → Row → TaskFault → List ℕ
task_hint head row (TooFew count) = if is_open_row head row then quote_hint else []
task_hint head row (TooMany count) = surplus_hint (slice_index_or row.fields count [])
task_hint head row NoName = name_hint (is_open_field head row Name) (field_in Name head.heading row.fields)
task_hint head row (NameTaken line) = []
task_hint head row (Time column fault) = time_hint (is_open_field head row column) (field_in column head.heading row.fields) fault
task_hint head row LateDeadline = []

-- of a row that is no task
abbrev pub task_message : Head → Row → TaskFault → Told
task_message head row fault = record {
  place = Field row.line (task_number head.heading fault);
  text = task_reason head row.fields fault;
  hint = task_hint head row fault;
}

-- of a list without tasks, which ends on this line
abbrev pub no_task_message : Head → ℕ → Told
no_task_message head line = record { place = End line; text = codes "a task is expected"; hint = joined_names head.names }

-- of the row after as many tasks as there may be
abbrev pub too_many_message : ℕ → Told
too_many_message line = record { place = Field line 1; text = decimal LARGEST_TASK ++ codes " tasks are the most"; hint = [] }

-- of a file of this name that is no list
abbrev pub file_reason : FileFault → List ℕ
file_reason Utf16 = codes "it is UTF-16 text"
file_reason NoText = codes "it is no text"
file_reason Empty = codes "it is empty"
file_reason NoRecord = codes "it has no record"
file_reason NoList = codes "it is no list of tasks"

abbrev pub file_hint : List ℕ → FileFault → List ℕ
file_hint file Utf16 = codes "save it as UTF-8"
file_hint file NoText = []
file_hint file Empty = []
file_hint file NoRecord = []
file_hint file NoList = fit_hint file

abbrev pub file_message : List ℕ → FileFault → Told
file_message file fault = record { place = Start; text = file_reason fault; hint = file_hint file fault }
