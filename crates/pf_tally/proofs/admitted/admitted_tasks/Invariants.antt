use Rattle.std.proofs.Common.{◌≡◌, filter_map, take}
use Rattle.pf_run.specs.Inside.{join_of}
use Rattle.pf_tally.proofs.admitted.admitted_tasks.Given as goal

abbrev pub invariant-loop-numbered : goal.invariant-loop-numbered
invariant-loop-numbered l = l.admitted.items ≡ filter_map (join_of l.settings.base) (take l.numbered-index l.events)
