use Rattle.std.proofs.Common.{◌≡◌, ◌+◌, ◌-◌, ◌++◌, drop}
use Rattle.std.specs.List.{range_with_len}
use Rattle.pf_chart.specs.Chart.{all_task_lines}
use Rattle.pf_chart.proofs.block.push_tasks.Given as goal

-- the lines so far and those that are left are all
abbrev pub invariant-loop-listing : goal.invariant-loop-listing
invariant-loop-listing l = record {
  rank : l.rank ≡ l.listing-index;
  whole : l.text.items ++ all_task_lines l.labels (range_with_len l.from (l.to - l.from)) (l.listing-index + 1) (drop l.listing-index l.listed)
      ≡ l.initial.text.items ++ all_task_lines l.labels (range_with_len l.from (l.to - l.from)) 1 l.listed;
}
