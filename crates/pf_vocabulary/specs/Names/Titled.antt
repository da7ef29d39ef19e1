-- What a script tells of a desk that the desk itself does not hold.
use Rattle.std.specs.Prelude.{ℕ, false, List, [], ◌++◌, codes, None}
use Rattle.std.specs.Fmt.{decimal}
use Rattle.std.specs.Option.{unwrap_or}
use Rattle.pf_vocabulary.specs.Names.Names.{name_of}
use Rattle.pf_vocabulary.specs.declared.names.named.Named.{Named}
use Rattle.pf_vocabulary.specs.declared.names.titles.Titles.{Titles}

-- nothing, as scripts of versions 1 and 2 do
abbrev pub untitled : Titles
untitled = record { is_plan = false; names = []; slot = None }

-- what a task is called: its name, or `task` and its number
unfoldable pub number_label : ℕ → List ℕ
number_label task = codes "task " ++ decimal task

abbrev pub label_of : List Named → ℕ → List ℕ
label_of names task = unwrap_or (name_of names task) (number_label task)
