use Rattle.std.proofs.Common.{◌≡◌, ◌-◌, ◌++◌}
use Rattle.std.specs.List.{flat_map, range_with_len}
use Rattle.pf_chart.specs.Chart.{processor_line}
use Rattle.pf_chart.proofs.block.push_processors.Given as goal

abbrev pub invariant-loop-processor : goal.invariant-loop-processor
invariant-loop-processor l =
    l.text.items
    ≡ l.initial.text.items ++ flat_map (processor_line l.snapshot l.places l.listed (range_with_len l.from (l.to - l.from))) (range_with_len 0 l.processor)
