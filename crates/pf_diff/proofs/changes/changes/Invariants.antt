use Rattle.std.proofs.Common.{◌≡◌, ◌++◌, filter, map}
use Rattle.pf_diff.specs.Changes.{change_at, is_change, changes_of}
use Rattle.pf_diff.proofs.changes.changes.Given as goal

-- what was found to differ, and after it what differs at the keys left, is all that differs
abbrev pub invariant-loop-key : goal.invariant-loop-key
invariant-loop-key l =
    l.changes.items ++ filter is_change (map (change_at l.first.entries l.second.entries) l.key-iterator) ≡ changes_of l.before l.after
