use Rattle.std.specs.Prelude.{is_some}
use Rattle.csv.specs.Records.{fields_of}
use Rattle.pf_convert.specs.List.Heading.{column_named}
use Rattle.pf_convert.proofs.Counts.{IsCount}
use Rattle.pf_convert.proofs.list.kind.names_columns.Given as goal

abbrev pub invariant-loop-place : goal.invariant-loop-place
invariant-loop-place l = IsCount (λ field. is_some (column_named field)) (fields_of l.row) l.place l.count
