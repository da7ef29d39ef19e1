-- What would be right in place of what is wrong with a list.
use Rattle.std.specs.Prelude.{ℕ, ◌==◌, ◌&&◌, Bool, false, nat_lt, if◌then◌else◌, Option, None, Some, unwrap_or, Result, Ok, Err, List, [], ◌∷◌, ◌++◌, length, map, codes}
use Rattle.std.specs.List.{list_all, list_any}
use Rattle.std.specs.Fmt.{decimal}
use Rattle.std.specs.Str.{bytes_eq}
use Rattle.pf_vocabulary.specs.Names.Text.{is_letter_first, is_text_byte}
use Rattle.pf_vocabulary.specs.declared.names.unit.Unit.TheVariants.{Millisecond}
use Rattle.pf_message.specs.Nearness.{near_name}
use Rattle.pf_message.specs.Shell.{shell_word}
use Rattle.pf_convert.specs.declared.list.column.Column.{Column}
use Rattle.pf_convert.specs.declared.list.time.TimeFault.{TimeFault}
use Rattle.pf_convert.specs.declared.list.time.TimeFault.TheVariants.{NoTime, TooFine, NoUnit, Zero}
use Rattle.pf_convert.specs.List.Heading.{column_like, column_word}
use Rattle.pf_convert.specs.List.Times.{time_in}

abbrev pub has_byte : ℕ → List ℕ → Bool
has_byte byte field = list_any (λ b. b == byte) field

abbrev pub column_names : List (List ℕ)
column_names = codes "name" ∷ codes "work" ∷ codes "every" ∷ codes "deadline" ∷ codes "first" ∷ codes "early" ∷ []

-- the column that is meant by a word, or the one that it is near to
abbrev pub meant_column : List ℕ → Option Column → List ℕ
meant_column field None = unwrap_or (near_name field column_names) []
meant_column field (Some column) = column_word column

-- of a field that names no column
unfoldable pub column_hint : List ℕ → List ℕ
column_hint field =
    if has_byte 59 field then codes "commas separate fields, not semicolons"
    else if has_byte 9 field then codes "commas separate fields, not tabs"
    else meant_column field (column_like field)

abbrev pub quote_hint : List ℕ
quote_hint = codes "the quote that begins here is not closed"

abbrev pub comment_hint : List ℕ
comment_hint = codes "a comment has a line of its own"

-- what a name may have, but for its length
abbrev pub is_name_text : List ℕ → Bool
is_name_text field = is_letter_first field && list_all is_text_byte field

abbrev pub length_hint : ℕ → List ℕ
length_hint count = codes "it has " ++ decimal count ++ codes " bytes, and 24 are the most"

-- of a field that is no name; whether the list ends within its quotes
unfoldable pub name_hint : Bool → List ℕ → List ℕ
name_hint is_open field =
    if is_open then quote_hint
    else if has_byte 35 field then comment_hint
    else if nat_lt 24 (length field) && is_name_text field then length_hint (length field)
    else if list_any (λ b. nat_lt 126 b) field then codes "letters are A to Z and a to z"
    else []

-- points for commas
abbrev pub with_points : List ℕ → List ℕ
with_points field = map (λ b. if b == 44 then 46 else b) field

abbrev pub time_or_nothing : List ℕ → Result ℕ TimeFault → List ℕ
time_or_nothing field (Ok time) = field
time_or_nothing field (Err fault) = []

-- of a field that is no time
unfoldable pub no_time_hint : Bool → List ℕ → List ℕ
no_time_hint is_open field =
    if is_open then quote_hint
    else if has_byte 35 field then comment_hint
    else time_or_nothing (with_points field) (time_in Millisecond (with_points field))

abbrev pub time_hint : Bool → List ℕ → TimeFault → List ℕ
time_hint is_open field NoTime = no_time_hint is_open field
time_hint is_open field TooFine = []
time_hint is_open field NoUnit = codes "--unit tells that of the others"
time_hint is_open field Zero = []

-- of the first field too much
abbrev pub begins_comment : List ℕ → Bool
begins_comment [] = false
begins_comment (byte ∷ bytes) = byte == 35

abbrev pub surplus_hint : List ℕ → List ℕ
surplus_hint field = if begins_comment field then comment_hint else codes "a decimal has a point, no comma"

-- of a script: what tells whether it fits; `-` is standard input
unfoldable pub fit_hint : List ℕ → List ℕ
fit_hint file = codes "pfair fit" ++ (if bytes_eq file (codes "-") then [] else codes " " ++ shell_word file)
