use Rattle.std.proofs.Common.{◌≡◌, None}
use Rattle.pf_answers.specs.SlotsChanged.{first_changed}
use Rattle.pf_answers.proofs.slots.first_changed.Given as goal

-- each row so far is as before
abbrev pub invariant-loop-slot : goal.invariant-loop-slot
invariant-loop-slot l = first_changed l.processors l.before l.after l.slot ≡ None
