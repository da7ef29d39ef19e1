use Rattle.std.proofs.Common.{◌≡◌, ℕ, List, drop, length}
use Rattle.pf_journal.specs.Texts.{whole_behind}
use Rattle.pf_journal.specs.Recorder.Recording.{records_in}
use Rattle.pf_journal.proofs.recorder.opening.behind_heading.Given as goal

abbrev pub invariant-loop-rest : goal.invariant-loop-rest
invariant-loop-rest l = (front : List ℕ) × (drop 1 (whole_behind front l.rest) ≡ records_in l.fn.script)

abbrev pub decreases-loop-rest : goal.decreases-loop-rest
decreases-loop-rest l = length l.rest
