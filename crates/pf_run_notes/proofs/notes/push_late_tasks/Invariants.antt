use Rattle.std.proofs.Common.{◌≡◌, ◌++◌, take}
use Rattle.pf_run_notes.specs.Notes.{late_lines}
use Rattle.pf_run_notes.proofs.notes.push_late_tasks.Given as goal

abbrev pub invariant-loop-miss : goal.invariant-loop-miss
invariant-loop-miss l =
    l.text.items ≡ l.fn.text.items ++ late_lines l.file l.names l.made l.scenario.events l.counts (take l.miss-index l.firsts)
