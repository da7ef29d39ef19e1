use Rattle.std.proofs.Common.{◌≡◌, ◌++◌, [], map}
use Rattle.pf_text.specs.Page.{table_text}
use Rattle.pf_report.specs.Events.{event_record, events_text}
use Rattle.pf_report.proofs.events.events_csv.Given as goal

-- what is written and what is left are the whole text
abbrev pub invariant-loop-numbered : goal.invariant-loop-numbered
invariant-loop-numbered l = record {
  whole : l.table.text ++ table_text (map event_record l.numbered-iterator) ≡ events_text l.snapshot;
  at_record : l.table.fields ≡ [];
}
