use Rattle.std.proofs.Common.{length}
use Rattle.pf_run.specs.Computed.{run_of}
use Rattle.pf_tally.proofs.FitSteps.{IsFitAt}
use Rattle.pf_tally.proofs.fits.fits.Given as goal

abbrev pub invariant-loop-numbered : goal.invariant-loop-numbered
invariant-loop-numbered l =
    IsFitAt l.scenario (run_of l.scenario (length l.rows)) l.numbered-index l.from l.count l.asking.items l.fit
