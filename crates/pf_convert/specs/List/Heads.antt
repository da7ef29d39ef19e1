-- What the tasks of a list are read by.
use Rattle.std.specs.Prelude.{ℕ, Option, List}
use Rattle.pf_convert.specs.declared.list.heading.Heading.{Heading}
use Rattle.pf_convert.specs.declared.list.unit_rule.UnitRule.{UnitRule}

-- in which unit times are, where the columns are and how they are named, and the line of the record within whose last quotes
-- the list ends
pub record Head : Type 0 where
  pub rule : UnitRule
  pub heading : Heading
  pub names : List (List ℕ)
  pub open_line : Option ℕ
