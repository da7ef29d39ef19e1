use Rattle.std.proofs.Common.{◌≡◌, [], fold, filter_map, drop}
use Rattle.pf_run.specs.Computed.{run_of}
use Rattle.pf_fit_command.specs.Items.{denied_item, with_item}
use Rattle.pf_fit_command.proofs.items.denied_array.Given as goal

-- the items so far, and those of the denials left
abbrev pub invariant-loop-denied : goal.invariant-loop-denied
invariant-loop-denied l =
    fold with_item l.items.items
    (filter_map (denied_item l.made l.scenario (run_of l.scenario l.snapshot.state.now)) (drop l.denied-index l.denials))
    ≡ fold with_item [] (filter_map (denied_item l.made l.scenario (run_of l.scenario l.snapshot.state.now)) l.denials)
