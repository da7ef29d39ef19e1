-- The units of a list's times.
use Rattle.std.specs.Prelude.{Option, None, Some, unwrap_or, List, [], ◌∷◌}
use Rattle.pf_vocabulary.specs.declared.names.unit.Unit.{Unit}
use Rattle.pf_vocabulary.specs.declared.names.unit.Unit.TheVariants.{Millisecond}
use Rattle.pf_convert.specs.declared.list.listed.Listed.{Listed}

-- the unit that the first task's `every` carries, if it does
abbrev pub first_unit : List Listed → Option Unit
first_unit [] = None
first_unit (task ∷ tasks) = task.unit

-- the unit in which times are shown: the one that is given, else that of the first task, else milliseconds
abbrev pub shown_unit : Option Unit → List Listed → Unit
shown_unit (Some unit) tasks = unit
shown_unit None tasks = unwrap_or (first_unit tasks) Millisecond
