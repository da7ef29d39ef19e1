use Rattle.std.proofs.Common.{◌≡◌, ◌++◌, drop}
use Rattle.csv.specs.Records.{fields_of}
use Rattle.pf_convert.specs.List.Heading.{joined_names, names_after}
use Rattle.pf_convert.proofs.list.heading.push_names.Given as goal

abbrev pub invariant-loop-place : goal.invariant-loop-place
invariant-loop-place l = l.text.items ++ names_after (drop l.place (fields_of l.names)) ≡ l.fn.text.items ++ joined_names (fields_of l.names)
