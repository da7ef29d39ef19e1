use Rattle.std.proofs.Common.{◌≡◌, ◌++◌, take}
use Rattle.std.specs.List.{flat_map}
use Rattle.pf_run.specs.Computed.{run_of}
use Rattle.pf_why_text.specs.Events.{event_text}
use Rattle.pf_why_text.proofs.events.push_events.Given as goal

-- the lines of the events so far stand there
abbrev pub invariant-loop-numbered : goal.invariant-loop-numbered
invariant-loop-numbered l =
    l.text.items ≡ l.fn.text.items
    ++ flat_map (event_text l.names l.reasons.state.plan (run_of l.reasons.state.plan l.reasons.state.now) l.denials) (take l.numbered-index l.events)
