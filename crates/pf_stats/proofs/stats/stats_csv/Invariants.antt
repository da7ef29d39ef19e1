use Rattle.std.proofs.Common.{◌≡◌, ◌++◌, [], map, drop}
use Rattle.pf_text.specs.Page.{table_text}
use Rattle.pf_stats.specs.Stats.{named_figures_record, stats_text}
use Rattle.pf_stats.proofs.stats.stats_csv.Given as goal

-- what is written and what is left are the whole text
abbrev pub invariant-loop-figures : goal.invariant-loop-figures
invariant-loop-figures l = record {
  whole : l.table.text ++ table_text (map (named_figures_record l.titles) (drop l.figures-index l.figures-items)) ≡ stats_text l.snapshot l.titles;
  at_record : l.table.fields ≡ [];
}
