use Rattle.std.proofs.Common.{◌≡◌, ◌++◌, [], map, drop}
use Rattle.pf_text.specs.Page.{table_text}
use Rattle.pf_report.specs.Script.{name_record}
use Rattle.pf_report.proofs.script.names_text.Given as goal

-- what is written and what is left are all names
abbrev pub invariant-loop-named : goal.invariant-loop-named
invariant-loop-named l = record {
  whole : l.table.text ++ table_text (map name_record (drop l.named-index l.named-items)) ≡ table_text (map name_record l.names);
  at_record : l.table.fields ≡ [];
}
