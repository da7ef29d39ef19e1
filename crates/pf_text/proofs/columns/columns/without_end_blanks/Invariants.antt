use Rattle.std.proofs.Common.{◌≡◌, ◌≤◌, take, length}
use Rattle.pf_text.specs.Columns.Columns.{without_end_blanks}
use Rattle.pf_text.proofs.columns.columns.without_end_blanks.Given as goal

abbrev pub invariant-loop-end : goal.invariant-loop-end
invariant-loop-end l = record { within : l.end ≤ length l.text; same : without_end_blanks (take l.end l.text) ≡ without_end_blanks l.text }

abbrev pub decreases-loop-end : goal.decreases-loop-end
decreases-loop-end l = l.end
