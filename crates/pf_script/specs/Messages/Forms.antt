-- The forms of records, and the names of their fields.
use Rattle.std.specs.Prelude.{ℕ, ◌-◌, ◌==◌, ◌||◌, Bool, drop, if◌then◌else◌, List, [], ◌∷◌, ◌++◌, codes}
use Rattle.pf_script.specs.Fields.{is_word}

-- of settings, of a plan or not
abbrev pub settings_form : Bool → List ℕ
settings_form plan = if plan then codes "settings,M,BASE[,CAP[,EVERY]]" else codes "settings,M,BASE,CAP,EVERY"

abbrev pub join_form : Bool → List ℕ
join_form plan = if plan then codes "join,SLOT,TASK,COST,PERIOD[,EARLY]" else codes "join,SLOT,TASK,COST,PERIOD,EARLY"

-- of the event that the first of these fields names, or else this one
unfoldable pub event_form : Bool → List ℕ → List (List ℕ) → List ℕ
event_form plan other fields =
    if is_word fields 0 (codes "join") then join_form plan
    else if is_word fields 0 (codes "leave") then codes "leave,SLOT,TASK"
    else if is_word fields 0 (codes "delay") then codes "delay,SLOT,TASK,BY"
    else if is_word fields 0 (codes "limit") then codes "limit,SLOT,COUNT"
    else other

-- of the event after a label, which may go on to it again
unfoldable pub labelled_form : Bool → List (List ℕ) → List ℕ
labelled_form plan fields =
    if is_word fields 0 (codes "again") then codes "again," ++ event_form plan (codes "EVENT") (drop 1 fields)
    else event_form plan (codes "EVENT") fields

-- of the change that the first of these fields names
unfoldable pub change_form : Bool → List (List ℕ) → List ℕ
change_form plan fields =
    if is_word fields 0 (codes "strike") then codes "strike,ID"
    else if is_word fields 0 (codes "alter") then codes "alter,ID," ++ event_form plan (codes "EVENT") (drop 2 fields)
    else if is_word fields 0 (codes "label") then codes "label,TEXT," ++ labelled_form plan (drop 2 fields)
    else event_form plan (codes "CHANGE") fields

-- of the record with these fields
unfoldable pub record_form : Bool → List (List ℕ) → List ℕ
record_form plan fields =
    if is_word fields 0 (codes "strict") then codes "strict," ++ change_form plan (drop 1 fields)
    else if is_word fields 0 (codes "step") then codes "step[,N]"
    else if is_word fields 0 (codes "settings") then settings_form plan
    else if is_word fields 0 (codes "slot") then codes "slot,LENGTH,UNIT"
    else if is_word fields 0 (codes "name") then codes "name,TASK,TEXT"
    else if is_word fields 0 (codes "plan") then codes "plan,1"
    else if is_word fields 0 (codes "pfair") then codes "pfair,2"
    else change_form plan fields

-- what stands after so many commas
abbrev pub after_commas : ℕ → List ℕ → List ℕ
after_commas commas [] = []
after_commas commas (byte ∷ bytes) =
    if commas == 0 then byte ∷ bytes else if byte == 44 then after_commas (commas - 1) bytes else after_commas commas bytes

-- up to a comma or a bracket
abbrev pub is_mark : ℕ → Bool
is_mark byte = (byte == 44) || (byte == 91) || (byte == 93)

abbrev pub before_mark : List ℕ → List ℕ
before_mark [] = []
before_mark (byte ∷ bytes) = if is_mark byte then [] else byte ∷ before_mark bytes

-- the name of a field, by its number from 1, of a record of a form
abbrev pub name_in : List ℕ → ℕ → List ℕ
name_in form number = before_mark (after_commas (number - 1) form)

-- the field of a heading has a name of its own
abbrev pub is_heading : List (List ℕ) → Bool
is_heading fields = is_word fields 0 (codes "plan") || is_word fields 0 (codes "pfair")

-- the name of a field of the record with these fields
unfoldable pub field_name : Bool → List (List ℕ) → ℕ → List ℕ
field_name plan fields number = if is_heading fields then codes "VERSION" else name_in (record_form plan fields) number
