use Rattle.std.proofs.Common.{◌≡◌, true}
use Rattle.pf_place.specs.Lent.{lent_row}
use Rattle.pf_answers.specs.SlotsChanged.{same_places}
use Rattle.pf_answers.proofs.slots.is_same_row.Given as goal

-- the same sits on each so far
abbrev pub invariant-loop-processor : goal.invariant-loop-processor
invariant-loop-processor l = same_places (lent_row l.before) (lent_row l.after) l.processor ≡ true
