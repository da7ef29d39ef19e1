-- How many units an overload has at most.
use Rattle.std.proofs.Common.{◌<◌, ◌^◌, length, arith, sym, subst}
use Rattle.pf_run.specs.Run.{IsRun}
use Rattle.pf_run.specs.Computed.{run_of}
use Rattle.pf_run.specs.RunRows.{AreOfRun}
use Rattle.pf_run.proofs.Runs.{run_is_computed}
use Rattle.pf_run.proofs.Within.{horizon_within}
use Rattle.pf_tally.specs.Load.{overload_of}
use Rattle.pf_tally.proofs.Steady.{overload-few}
use Rattle.pf_desk.specs.Desk.{Seen}

-- Use: the overload of what was seen.
pub few_units : (seen : Seen) → AreOfRun seen.state.plan seen.state.now seen.rows seen.denials →
    overload_of seen.state.plan (run_of seen.state.plan seen.state.now) seen.state.now < 2 ^ 100
few_units seen are =
    let s = seen.state.plan in
    let n = seen.state.now in
    let r = run_of s n in
    let run = run_is_computed s n are.scenario in
    let whole : IsRun s (length r) r = subst (λ m. IsRun s m r) (sym run.slots) run in
    omega (
      arith,
      overload-few s are.scenario r whole n (omega (arith, run.slots)),
      are.within,
      horizon_within s.settings are.scenario.settings,
    )
