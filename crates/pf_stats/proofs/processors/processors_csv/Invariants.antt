use Rattle.std.proofs.Common.{◌≡◌, ◌++◌, ◌-◌, [], map}
use Rattle.std.specs.List.{range_with_len}
use Rattle.pf_text.specs.Page.{table_text}
use Rattle.pf_stats.specs.Processors.{processor_record, processors_text}
use Rattle.pf_stats.proofs.processors.processors_csv.Given as goal

-- what is written and what is left are the whole text
abbrev pub invariant-loop-processor : goal.invariant-loop-processor
invariant-loop-processor l = record {
  whole : l.table.text
      ++ table_text (map (processor_record l.snapshot.rows) (range_with_len l.processor (l.snapshot.state.plan.settings.processors - l.processor)))
      ≡ processors_text l.snapshot;
  at_record : l.table.fields ≡ [];
}
