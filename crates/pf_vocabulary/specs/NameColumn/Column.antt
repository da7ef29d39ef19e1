-- The last column of a table of tasks in a plan: the name of each.
use Rattle.std.specs.Prelude.{ℕ, Bool, if◌then◌else◌, List, [], ◌∷◌, ◌++◌, codes, map}
use Rattle.std.specs.Option.{unwrap_or}
use Rattle.pf_vocabulary.specs.Names.Names.{name_of}
use Rattle.pf_vocabulary.specs.declared.names.titles.Titles.{Titles}

-- a field where the table has the column
abbrev pub field_if : Bool → List ℕ → List (List ℕ)
field_if is_plan field = if is_plan then field ∷ [] else []

abbrev pub name_heading : Titles → List (List ℕ)
name_heading titles = field_if titles.is_plan (codes "name")

-- what a task is called, or nothing
abbrev pub name_fields : Titles → ℕ → List (List ℕ)
name_fields titles task = field_if titles.is_plan (unwrap_or (name_of titles.names task) [])

-- the records of a task, with its name at the end of each
abbrev pub with_name : Titles → ℕ → List (List (List ℕ)) → List (List (List ℕ))
with_name titles task records = map (λ fields. fields ++ name_fields titles task) records
