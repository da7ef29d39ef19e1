-- What a list of tasks tells.
use Rattle.std.specs.Prelude.{ℕ, ◌+◌, ◌==◌, ◌&&◌, ◌||◌, Bool, false, nat_le, nat_lt, if◌then◌else◌, Option, None, Some, Result, Ok, Err, List, [], ◌∷◌, ◌++◌, length, take, codes, slice_index_or}
use Rattle.std.specs.List.{list_any}
use Rattle.std.specs.Str.{bytes_eq}
use Rattle.csv.specs.Reading.{strip_bom}
use Rattle.pf_vocabulary.specs.declared.names.unit.Unit.{Unit}
use Rattle.pf_text.specs.Rows.Rows.{Row, rows}
use Rattle.pf_weight.specs.declared.task.TheConstants.{LARGEST_TASK}
use Rattle.pf_convert.specs.declared.list.fault.FileFault.{FileFault}
use Rattle.pf_convert.specs.declared.list.fault.FileFault.TheVariants.{Utf16, NoText, Empty, NoRecord, NoList}
use Rattle.pf_convert.specs.declared.list.fault.HeadingFault.{HeadingFault}
use Rattle.pf_convert.specs.declared.list.fault.TaskFault.{TaskFault}
use Rattle.pf_convert.specs.declared.list.file_fault.TheConstants.{LOOKED_AT}
use Rattle.pf_convert.specs.declared.list.heading.Heading.{Heading}
use Rattle.pf_convert.specs.declared.list.listed.Listed.{Listed}
use Rattle.pf_convert.specs.declared.list.unit_rule.UnitRule.{UnitRule}
use Rattle.pf_convert.specs.List.Faults.{file_message, heading_message, no_task_message, task_message, too_many_message}
use Rattle.pf_convert.specs.List.Heading.{heading_in, no_columns}
use Rattle.pf_convert.specs.List.Heads.{Head}
use Rattle.pf_convert.specs.List.Messages.{Told}
use Rattle.pf_convert.specs.List.Quotes.{open_line}
use Rattle.pf_convert.specs.List.Reading.{rule_for, task_in}

-- the tasks without a fault, and the messages of the faults, both in the order of the records; and where the columns are
pub record ListTold : Type 0 where
  pub tasks : List Listed
  pub faults : List Told
  pub heading : Heading

abbrev pub nothing_told : ListTold
nothing_told = record { tasks = []; faults = []; heading = no_columns }

abbrev pub with_task : ListTold → Listed → ListTold
with_task told task = record told { tasks = told.tasks ++ task ∷ [] }

abbrev pub with_fault : ListTold → Told → ListTold
with_fault told message = record told { faults = told.faults ++ message ∷ [] }

-- a row more: its task, or the message of its fault
abbrev pub with_read : Head → ListTold → Row → Result Listed TaskFault → ListTold
with_read head told row (Ok task) = with_task told task
with_read head told row (Err fault) = with_fault told (task_message head row fault)

unfoldable pub with_row : Head → ListTold → Row → ListTold
with_row head told row = with_read head told row (task_in head.rule head.heading told.tasks row.line row.fields)

-- what a list tells with these rows after so many others, where so much was told; after as many tasks as there may be
-- nothing more is looked at
unfoldable pub tasks_told : Head → ℕ → ListTold → ℕ → List Row → ListTold
tasks_told head count told end [] = if count == 0 then with_fault told (no_task_message head end) else told
tasks_told head count told end (row ∷ rows) =
    if count == LARGEST_TASK then with_fault told (too_many_message row.line)
    else tasks_told head (count + 1) (with_row head told row) end rows

-- whether a row is the first one of a script or a plan
abbrev pub names_script : List (List ℕ) → Bool
names_script fields =
    bytes_eq (slice_index_or fields 0 []) (codes "plan") || bytes_eq (slice_index_or fields 0 []) (codes "pfair")
    || bytes_eq (slice_index_or fields 0 []) (codes "settings")

abbrev pub bad_heading : List ℕ → Row → HeadingFault → Told
bad_heading file row fault = if names_script row.fields then file_message file NoList else heading_message row fault

abbrev pub head_of : UnitRule → Option ℕ → Heading → List (List ℕ) → Head
head_of rule quoted h names = record { rule = rule; heading = h; names = names; open_line = quoted }

-- what a list tells with a heading and these rows
abbrev pub told_under : List ℕ → UnitRule → Option ℕ → Row → ℕ → List Row → Result Heading HeadingFault → ListTold
told_under file rule quoted row end rows (Ok h) = tasks_told (head_of rule quoted h row.fields) 0 (record nothing_told { heading = h }) end rows
told_under file rule quoted row end rows (Err fault) = with_fault nothing_told (bad_heading file row fault)

abbrev pub told_of : List ℕ → UnitRule → Option ℕ → ℕ → List Row → ListTold
told_of file rule quoted end [] = with_fault nothing_told (file_message file NoRecord)
told_of file rule quoted end (row ∷ rows) = told_under file rule quoted row end rows (heading_in row.fields)

-- the first bytes are those of UTF-16
abbrev pub is_utf16 : List ℕ → Bool
is_utf16 [] = false
is_utf16 (byte ∷ []) = false
is_utf16 (first ∷ second ∷ bytes) = ((first == 255) && (second == 254)) || ((first == 254) && (second == 255))

-- a byte of no text
abbrev pub is_control : ℕ → Bool
is_control byte = nat_lt byte 9 || (nat_le 14 byte && nat_le byte 31)

abbrev pub has_control : List ℕ → Bool
has_control bytes = list_any is_control bytes

abbrev pub looked_at : List ℕ → List ℕ
looked_at text = take LOOKED_AT text

-- what a file with a fault is by its bytes alone
abbrev pub bytes_fault : List ℕ → Option FileFault
bytes_fault text =
    if is_utf16 text then Some Utf16
    else if has_control (looked_at text) then Some NoText
    else if length (strip_bom text) == 0 then Some Empty
    else None

-- where a list has a fault, and its file is no list by its bytes, that alone is told
abbrev pub with_bytes_fault : List ℕ → ListTold → Option FileFault → ListTold
with_bytes_fault file told None = told
with_bytes_fault file told (Some fault) = record nothing_told { faults = file_message file fault ∷ [] }

abbrev pub of_file : List ℕ → List ℕ → ListTold → ListTold
of_file file text told = if length told.faults == 0 then told else with_bytes_fault file told (bytes_fault text)

-- what the list of this file tells with these bytes, where this unit is given
abbrev pub list_of : List ℕ → Option Unit → List ℕ → ListTold
list_of file given text = told_of file (rule_for given (rows text).rows) (open_line text) (rows text).end (rows text).rows

unfoldable pub list_told : List ℕ → Option Unit → List ℕ → ListTold
list_told file given text = of_file file text (list_of file given text)
