-- Times in words.
use Rattle.std.specs.Prelude.{ℕ, ◌+◌, ◌*◌, ◌/◌, ◌%◌, ◌^◌, ◌==◌, ◌&&◌, ◌||◌, Bool, true, false, not, nat_le, nat_lt, if◌then◌else◌, ok_or, Option, None, Some, unwrap_or, Result, Ok, Err, List, ◌++◌, length, take, drop}
use Rattle.std.specs.List.{position}
use Rattle.std.specs.Str.{all_ascii_digits}
use Rattle.std.specs.Str.Parse.{digits_value}
use Rattle.pf_text.specs.Columns.Decimals.{with_fewest_places}
use Rattle.pf_vocabulary.specs.Names.Slots.{unit_named, unit_word}
use Rattle.pf_vocabulary.specs.declared.names.unit.Unit.{Unit}
use Rattle.pf_vocabulary.specs.declared.names.unit.Unit.TheVariants.{Nanosecond, Microsecond, Millisecond, Second}
use Rattle.pf_convert.specs.declared.list.time.TimeFault.{TimeFault}
use Rattle.pf_convert.specs.declared.list.time.TimeFault.TheVariants.{NoTime, NoUnit, TooFine, Zero}

-- a nanosecond is 10^-places of a unit
abbrev pub places_of : Unit → ℕ
places_of Nanosecond = 0
places_of Microsecond = 3
places_of Millisecond = 6
places_of Second = 9

-- the number that 1 to 9 ASCII digits are, with nothing else
unfoldable pub few_digits : List ℕ → Option ℕ
few_digits bytes =
    if (length bytes == 0) || nat_lt 9 (length bytes) then None
    else if all_ascii_digits bytes then Some (digits_value 10 bytes)
    else None

-- the second step from the first one's value, or the first one's fault
infixl 10 ◌>>=◌
abbrev pub ◌>>=◌ : {A B E : Type 0} → Result A E → (A → Result B E) → Result B E
Ok a >>= f = f a
Err fault >>= f = Err fault

-- so many units in nanoseconds
abbrev pub whole_in : ℕ → List ℕ → Result ℕ TimeFault
whole_in places bytes = ok_or (few_digits bytes) NoTime >>= λ number. Ok (number * 10 ^ places)

-- the digits before a point in nanoseconds, of which there may be none
abbrev pub front_in : ℕ → List ℕ → Result ℕ TimeFault
front_in places bytes = if length bytes == 0 then Ok 0 else whole_in places bytes

-- the digits after a point in nanoseconds
abbrev pub part_of : ℕ → ℕ → ℕ → Result ℕ TimeFault
part_of places digits number = if number * 10 ^ places % 10 ^ digits == 0 then Ok (number * 10 ^ places / 10 ^ digits) else Err TooFine

abbrev pub part_in : ℕ → List ℕ → Result ℕ TimeFault
part_in places bytes = ok_or (few_digits bytes) NoTime >>= part_of places (length bytes)

-- the digits before the point at a place and those after it, or all of them
abbrev pub around_point : ℕ → List ℕ → Option ℕ → Result ℕ TimeFault
around_point places bytes None = whole_in places bytes
around_point places bytes (Some point) = do
  whole ← front_in places (take point bytes)
  part ← part_in places (drop (point + 1) bytes)
  Ok (whole + part)

-- a number of units in nanoseconds: 1 to 9 digits, and where there is a point 1 to 9 more after it; before the point there may be none
unfoldable pub number_in : ℕ → List ℕ → Result ℕ TimeFault
number_in places bytes = around_point places bytes (position (λ byte. byte == 46) bytes)

-- a digit or a point
abbrev pub is_number_byte : ℕ → Bool
is_number_byte byte = (nat_le 48 byte && nat_le byte 57) || (byte == 46)

-- a space or a tab
abbrev pub is_blank_byte : ℕ → Bool
is_blank_byte byte = (byte == 32) || (byte == 9)

-- how many digits and points a field begins with
unfoldable pub number_length : List ℕ → ℕ
number_length bytes = unwrap_or (position (λ byte. not (is_number_byte byte)) bytes) (length bytes)

-- how many blanks it begins with
unfoldable pub blanks_length : List ℕ → ℕ
blanks_length bytes = unwrap_or (position (λ byte. not (is_blank_byte byte)) bytes) (length bytes)

-- the unit that stands after a number, after blanks or none; none where nothing does
abbrev pub unit_or_fault : Option Unit → Result (Option Unit) TimeFault
unit_or_fault None = Err NoTime
unit_or_fault (Some unit) = Ok (Some unit)

unfoldable pub unit_after : List ℕ → Result (Option Unit) TimeFault
unit_after bytes = if length bytes == 0 then Ok None else unit_or_fault (unit_named (drop (blanks_length bytes) bytes))

-- the unit that a field carries after its number, if it does
abbrev pub unit_in : List ℕ → Result (Option Unit) TimeFault
unit_in bytes = unit_after (drop (number_length bytes) bytes)

-- the number of a field in a unit of its own or else in this one
abbrev pub time_with : List ℕ → Unit → Option Unit → Result ℕ TimeFault
time_with bytes assumed unit = number_in (places_of (unwrap_or unit assumed)) (take (number_length bytes) bytes)

-- a time in nanoseconds: a number, and its unit, where it carries one, else this one
unfoldable pub time_in : Unit → List ℕ → Result ℕ TimeFault
time_in assumed bytes = unit_in bytes >>= time_with bytes assumed

-- the unit that a time carries, if it does
abbrev pub carried_of : Result (Option Unit) TimeFault → Option Unit
carried_of (Ok unit) = unit
carried_of (Err fault) = None

abbrev pub carried_unit : List ℕ → Option Unit
carried_unit bytes = carried_of (unit_in bytes)

-- it is a number, though no whole one of nanoseconds
abbrev pub is_number : Result ℕ TimeFault → Bool
is_number (Ok time) = true
is_number (Err NoTime) = false
is_number (Err TooFine) = true
is_number (Err Zero) = true
is_number (Err NoUnit) = true

-- whether a field is a time that carries a unit
abbrev pub is_time_with : List ℕ → Option Unit → Bool
is_time_with bytes None = false
is_time_with bytes (Some unit) = is_number (number_in (places_of unit) (take (number_length bytes) bytes))

unfoldable pub carries_unit : List ℕ → Bool
carries_unit bytes = is_time_with bytes (carried_unit bytes)

-- a time in nanoseconds as it is shown in a unit
abbrev pub time_text : Unit → ℕ → List ℕ
time_text unit time = with_fewest_places (places_of unit) time ++ unit_word unit
