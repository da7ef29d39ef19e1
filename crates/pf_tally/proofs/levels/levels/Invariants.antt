use Rattle.std.proofs.Common.{length, min, max}
use Rattle.pf_run.specs.Computed.{run_of}
use Rattle.pf_tally.specs.declared.fit.Fit.{Fit}
use Rattle.pf_tally.proofs.FitSteps.{IsFitAt}
use Rattle.pf_tally.proofs.LevelSteps.{AreLevels}
use Rattle.pf_tally.proofs.levels.levels.Given as goal

-- the walk has come to an event, with some fit of the slots passed, and has the levels of those of the range
abbrev pub invariant-loop-numbered : goal.invariant-loop-numbered
invariant-loop-numbered l = record {
  at : (fit : Fit) × IsFitAt l.scenario (run_of l.scenario (length l.rows)) l.numbered-index l.passed l.count l.asking.items fit;
  levels : AreLevels l.scenario (run_of l.scenario (length l.rows)) l.from (min (max l.from l.passed) l.to) l.levels.items;
}
