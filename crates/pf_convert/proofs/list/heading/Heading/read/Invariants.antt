use Rattle.std.proofs.Common.{◌≡◌, drop}
use Rattle.csv.specs.Records.{fields_of}
use Rattle.pf_convert.specs.List.Heading.{heading_from, heading_in}
use Rattle.pf_convert.proofs.list.heading.Heading.read.Given as goal

abbrev pub invariant-loop-place : goal.invariant-loop-place
invariant-loop-place l = heading_from l.place l.heading (drop l.place (fields_of l.row)) ≡ heading_in (fields_of l.row)
