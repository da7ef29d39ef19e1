use Rattle.std.proofs.Common.{◌≡◌, ◌++◌, drop}
use Rattle.pf_code.specs.Tasks.{lines_among}
use Rattle.pf_code.proofs.task_lines.push_lines.Given as goal

-- the lines so far and those that are left are all
abbrev pub invariant-loop-at : goal.invariant-loop-at
invariant-loop-at l =
    l.text.items ++ lines_among l.capitals l.outline l.names l.tasks (drop l.at l.tasks) ≡ l.fn.text.items ++ lines_among l.capitals l.outline l.names l.tasks l.tasks
