-- How long a slot is.
use Rattle.std.specs.Prelude.{ℕ, List, ◌++◌, codes, if◌then◌else◌, Option, Some, None}
use Rattle.std.specs.Fmt.{decimal}
use Rattle.std.specs.Str.{bytes_eq}
use Rattle.pf_vocabulary.specs.declared.names.slot_length.SlotLength.{SlotLength}
use Rattle.pf_vocabulary.specs.declared.names.unit.Unit.{Unit}
use Rattle.pf_vocabulary.specs.declared.names.unit.Unit.TheVariants.{Nanosecond, Microsecond, Millisecond, Second}

abbrev pub unit_word : Unit → List ℕ
unit_word Nanosecond = codes "ns"
unit_word Microsecond = codes "us"
unit_word Millisecond = codes "ms"
unit_word Second = codes "s"

-- the unit that a field names
unfoldable pub unit_named : List ℕ → Option Unit
unit_named field =
    if bytes_eq field (codes "ns") then Some Nanosecond
    else if bytes_eq field (codes "us") then Some Microsecond
    else if bytes_eq field (codes "ms") then Some Millisecond
    else if bytes_eq field (codes "s") then Some Second
    else None

-- as `500us`
abbrev pub slot_text : SlotLength → List ℕ
slot_text slot = decimal slot.length ++ unit_word slot.unit
