-- The heading of a list: the names of its columns.
use Rattle.std.specs.Prelude.{ℕ, ◌+◌, ◌||◌, min, unwrap_or, Bool, if◌then◌else◌, Option, None, Some, is_some, is_none, Result, Ok, Err, List, [], ◌∷◌, ◌++◌, codes, drop, slice_index_or}
use Rattle.std.specs.Str.{str_eq_ignore_ascii_case}
use Rattle.pf_convert.specs.declared.list.column.Column.{Column}
use Rattle.pf_convert.specs.declared.list.column.Column.TheVariants.{Name, Work, Every, Deadline, First, Early}
use Rattle.pf_convert.specs.declared.list.heading.Heading.{Heading}
use Rattle.pf_convert.specs.declared.list.place.TheConstants.{NO_FIELD}
use Rattle.pf_convert.specs.List.Times.{◌>>=◌}
use Rattle.pf_convert.specs.declared.list.fault.HeadingFault.{HeadingFault}
use Rattle.pf_convert.specs.declared.list.fault.HeadingFault.TheVariants.{NoColumn, Twice, Missing}

abbrev pub column_word : Column → List ℕ
column_word Name = codes "name"
column_word Work = codes "work"
column_word Every = codes "every"
column_word Deadline = codes "deadline"
column_word First = codes "first"
column_word Early = codes "early"

-- in letters of any case
abbrev pub is_word : List ℕ → List ℕ → Bool
is_word field word = str_eq_ignore_ascii_case field word

-- the column that a heading names so
unfoldable pub column_named : List ℕ → Option Column
column_named field =
    if is_word field (codes "name") || is_word field (codes "task") then Some Name
    else if is_word field (codes "work") || is_word field (codes "wcet") || is_word field (codes "cost") || is_word field (codes "c") then Some Work
    else if is_word field (codes "every") || is_word field (codes "period") || is_word field (codes "t") then Some Every
    else if is_word field (codes "deadline") || is_word field (codes "d") then Some Deadline
    else if is_word field (codes "first") then Some First
    else if is_word field (codes "early") then Some Early
    else None

-- the column that is meant by a word which others use for it
unfoldable pub column_like : List ℕ → Option Column
column_like field =
    if is_word field (codes "execution") || is_word field (codes "runtime") || is_word field (codes "budget") then Some Work
    else if is_word field (codes "p") || is_word field (codes "interval") then Some Every
    else if is_word field (codes "due") then Some Deadline
    else if is_word field (codes "offset") || is_word field (codes "phase") || is_word field (codes "start") || is_word field (codes "arrival") then Some First
    else if is_word field (codes "id") then Some Name
    else None

-- the place of a column, if it is there
abbrev pub place_of : Column → Heading → Option ℕ
place_of Name h = h.name
place_of Work h = h.work
place_of Every h = h.every
place_of Deadline h = h.deadline
place_of First h = h.first
place_of Early h = h.early

-- the number of the field at a place: fields are counted from 1
abbrev pub field_number : ℕ → ℕ
field_number place = min (place + 1) NO_FIELD

-- the number of a column's field; that after the last where it is not there
abbrev pub number_of : Column → Heading → ℕ
number_of column h = field_number (unwrap_or (place_of column h) h.count)

abbrev pub with_column : Column → ℕ → Heading → Heading
with_column Name place h = record h { count = place + 1; name = Some place }
with_column Work place h = record h { count = place + 1; work = Some place }
with_column Every place h = record h { count = place + 1; every = Some place }
with_column Deadline place h = record h { count = place + 1; deadline = Some place }
with_column First place h = record h { count = place + 1; first = Some place }
with_column Early place h = record h { count = place + 1; early = Some place }

abbrev pub no_columns : Heading
no_columns = record { count = 0; name = None; work = None; every = None; deadline = None; first = None; early = None }

-- a further field, at a place, names a column, and one that none before it names
abbrev pub column_given : ℕ → Heading → Option Column → Result Heading HeadingFault
column_given place h None = Err (NoColumn (place + 1))
column_given place h (Some column) =
    if is_some (place_of column h) then Err (Twice (place + 1) column) else Ok (with_column column place h)

abbrev pub field_given : ℕ → Heading → List ℕ → Result Heading HeadingFault
field_given place h field = column_given place h (column_named field)

-- the first column that is missing and is needed; a further field would have the number `next`
abbrev pub needed_in : ℕ → Heading → Result Heading HeadingFault
needed_in next h =
    if is_none h.name then Err (Missing next Name)
    else if is_none h.work then Err (Missing next Work)
    else if is_none h.every then Err (Missing next Every)
    else Ok h

-- the fields from a place on, and then what is missing
unfoldable pub heading_from : ℕ → Heading → List (List ℕ) → Result Heading HeadingFault
heading_from place h [] = needed_in (field_number place) h
heading_from place h (field ∷ fields) = field_given place h field >>= λ more. heading_from (place + 1) more fields

-- the heading that a row is
abbrev pub heading_in : List (List ℕ) → Result Heading HeadingFault
heading_in fields = heading_from 0 no_columns fields

-- the field at a place, without a byte where there is none
abbrev pub field_at_place : Option ℕ → List (List ℕ) → List ℕ
field_at_place None fields = []
field_at_place (Some place) fields = slice_index_or fields place []

-- the field of a column
abbrev pub field_in : Column → Heading → List (List ℕ) → List ℕ
field_in column h fields = field_at_place (place_of column h) fields

-- fields, each after a comma
unfoldable pub names_after : List (List ℕ) → List ℕ
names_after [] = []
names_after (name ∷ names) = codes "," ++ name ++ names_after names

-- the fields of a heading, joined by commas
abbrev pub joined_names : List (List ℕ) → List ℕ
joined_names names = slice_index_or names 0 [] ++ names_after (drop 1 names)
