use Rattle.std.proofs.Common.{◌≡◌, ◌++◌, drop, map, take}
use Rattle.pf_session.specs.Made.{renumbered}
use Rattle.pf_session.proofs.made.renumber.Given as goal

-- those so far are renumbered, and those that are left are as they were
abbrev pub invariant-loop-one : goal.invariant-loop-one
invariant-loop-one l = l.made ≡ map (renumbered l.old l.new) (take l.one-index l.fn.made) ++ drop l.one-index l.fn.made
