use Rattle.std.proofs.Common.{◌≡◌, ◌++◌, filter, take}
use Rattle.std.specs.Prelude.{◌==◌}
use Rattle.std.specs.List.{flat_map}
use Rattle.pf_scenario.specs.Event.{slot_of}
use Rattle.pf_trace.specs.Lines.{moment_line}
use Rattle.pf_trace.proofs.task_trace.TaskTrace.push_moments.Given as goal

-- those of the slot among the ones so far stand there
abbrev pub invariant-loop-moment : goal.invariant-loop-moment
invariant-loop-moment l =
    l.text.items ≡ l.fn.text.items
    ++ flat_map (moment_line l.self.title l.self.task) (filter (λ m. slot_of m.numbered.event == l.t) (take l.moment-index l.self.moments))
