use Rattle.std.proofs.Common.{◌≡◌, map, take}
use Rattle.pf_run.specs.Computed.{run_of}
use Rattle.pf_why_json.specs.Events.{event_json}
use Rattle.pf_why_json.proofs.events.events_json.Given as goal

-- those of the events so far
abbrev pub invariant-loop-numbered : goal.invariant-loop-numbered
invariant-loop-numbered l =
    map (λ v. v.items) l.texts.items
    ≡ map (event_json l.names l.reasons.state.plan (run_of l.reasons.state.plan l.reasons.state.now) l.denials) (take l.numbered-index l.events)
