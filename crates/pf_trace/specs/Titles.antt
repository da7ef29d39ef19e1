-- What the tasks are called in the events, and how long a slot is.
use Rattle.std.specs.Prelude.{ℕ, ◌*◌, Option, None, Some, List}
use Rattle.std.specs.Fmt.{decimal}
use Rattle.std.specs.Option.{unwrap_or}
use Rattle.pf_vocabulary.specs.Names.Names.{name_of}
use Rattle.pf_vocabulary.specs.Names.Titled.{label_of}
use Rattle.pf_vocabulary.specs.declared.names.named.Named.{Named}
use Rattle.pf_vocabulary.specs.declared.names.slot_length.SlotLength.{SlotLength}
use Rattle.pf_vocabulary.specs.declared.names.titles.Titles.{Titles}
use Rattle.pf_vocabulary.specs.declared.names.unit.Unit.{Unit}
use Rattle.pf_vocabulary.specs.declared.names.unit.Unit.TheVariants.{Nanosecond, Microsecond, Millisecond, Second}

-- the nanoseconds of a unit
abbrev pub unit_length : Unit → ℕ
unit_length Nanosecond = 1
unit_length Microsecond = 1000
unit_length Millisecond = 1000000
unit_length Second = 1000000000

-- the nanoseconds of a slot: those of a millisecond where its length is not told
abbrev pub step_of : Option SlotLength → ℕ
step_of None = 1000000
step_of (Some slot) = slot.length * unit_length slot.unit

-- a task's name, or its number
abbrev pub tag_of : List Named → ℕ → List ℕ
tag_of names task = unwrap_or (name_of names task) (decimal task)

-- what a task is called: its name, or `task` and its number; its name, or its number; and the nanoseconds of a slot
pub record Called : Type 0 where
  pub label : List ℕ
  pub tag : List ℕ
  pub step : ℕ

unfoldable pub title_of : Titles → ℕ → Called
title_of titles task = record { label = label_of titles.names task; tag = tag_of titles.names task; step = step_of titles.slot }
