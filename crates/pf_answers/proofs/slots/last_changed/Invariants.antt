use Rattle.std.proofs.Common.{◌≡◌}
use Rattle.pf_answers.specs.SlotsChanged.{last_changed}
use Rattle.pf_answers.proofs.slots.last_changed.Given as goal

-- each row so far is as before
abbrev pub invariant-loop-left : goal.invariant-loop-left
invariant-loop-left l = last_changed l.processors l.before l.after l.left ≡ last_changed l.processors l.before l.after l.now

abbrev pub decreases-loop-left : goal.decreases-loop-left
decreases-loop-left l = l.left
