use Rattle.std.proofs.Common.{◌≡◌, ◌++◌, take}
use Rattle.std.specs.List.{flat_map}
use Rattle.pf_run.specs.Computed.{run_of}
use Rattle.pf_run_notes.specs.Notes.{denied_note}
use Rattle.pf_run_notes.proofs.notes.push_denials.Given as goal

abbrev pub invariant-loop-denied : goal.invariant-loop-denied
invariant-loop-denied l =
    l.text.items ≡ l.fn.text.items
    ++ flat_map (denied_note l.file l.hints l.names l.made l.scenario (run_of l.scenario l.reasons.state.now)) (take l.denied-index l.denials)
