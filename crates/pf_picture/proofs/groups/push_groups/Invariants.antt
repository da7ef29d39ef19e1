use Rattle.std.proofs.Common.{◌≡◌, ◌++◌, drop}
use Rattle.pf_picture.specs.Lines.{groups_text}
use Rattle.pf_picture.proofs.groups.push_groups.Given as goal

-- the group deadlines so far and those that are left are all
abbrev pub invariant-loop-window : goal.invariant-loop-window
invariant-loop-window l =
    l.text.items ++ groups_text l.lane l.last (drop l.window-index l.windows) ≡ l.initial.text.items ++ groups_text l.lane 0 l.windows
