-- What a table tells of its slots.
use Rattle.std.specs.Prelude.{ℕ, ◌*◌}
use Rattle.pf_vocabulary.specs.declared.names.slot_length.SlotLength.{SlotLength}
use Rattle.pf_vocabulary.specs.declared.names.titles.Titles.{Titles}
use Rattle.pf_vocabulary.specs.declared.names.unit.Unit.{Unit}
use Rattle.pf_vocabulary.specs.declared.names.unit.Unit.TheVariants.{Nanosecond, Microsecond, Millisecond, Second}
use Rattle.pf_desk.specs.Desk.{Seen}
use Rattle.pf_code.specs.Repetition.{repetition_of}
use Rattle.pf_code.specs.declared.outline.Outline.{Outline}

-- the nanoseconds of a unit
abbrev pub unit_length : Unit → ℕ
unit_length Nanosecond = 1
unit_length Microsecond = 1000
unit_length Millisecond = 1000000
unit_length Second = 1000000000

-- the nanoseconds of a slot
abbrev pub nanoseconds_of : SlotLength → ℕ
nanoseconds_of slot = slot.length * unit_length slot.unit

-- of the slots from `from` on and below `to` of what was seen
abbrev pub outline_of : Seen → Titles → ℕ → ℕ → Outline
outline_of seen titles from to = record {
  from = from;
  to = to;
  now = seen.state.now;
  processors = seen.state.plan.settings.processors;
  base = seen.state.plan.settings.base;
  repetition = repetition_of seen from to;
  slot = titles.slot;
}
