use Rattle.std.proofs.Common.{◌≡◌, map, take}
use Rattle.pf_run.specs.Computed.{run_of}
use Rattle.pf_verdict.specs.Grow.{grow_of}
use Rattle.pf_verdict.proofs.grow.grows.Given as goal

abbrev pub invariant-loop-task : goal.invariant-loop-task
invariant-loop-task l =
    l.grows.items ≡ map (grow_of l.snapshot.state.plan (run_of l.snapshot.state.plan l.snapshot.state.now)) (take l.task-index l.task-items)
