use Rattle.std.proofs.Common.{◌≡◌, ◌++◌}
use Rattle.std.specs.List.{flat_map, range_with_len}
use Rattle.pf_trace.specs.Trace.{processor_name}
use Rattle.pf_trace.proofs.head.push_processors.Given as goal

-- the processors below this one are named
abbrev pub invariant-loop-processor : goal.invariant-loop-processor
invariant-loop-processor l = l.text.items ≡ l.fn.text.items ++ flat_map (processor_name l.title) (range_with_len 0 l.processor)
