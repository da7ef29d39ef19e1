use Rattle.std.proofs.Common.{take}
use Rattle.pf_run_notes.specs.Late.{AreLate}
use Rattle.pf_run_notes.proofs.late.late_tasks.Given as goal

abbrev pub invariant-loop-miss : goal.invariant-loop-miss
invariant-loop-miss l = AreLate (take l.miss-index l.misses) l.late.firsts.items l.late.counts
