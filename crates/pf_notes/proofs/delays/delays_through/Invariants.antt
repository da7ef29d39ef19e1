use Rattle.std.proofs.Common.{◌≡◌, ◌≤◌, ◌*◌, take}
use Rattle.pf_scenario.specs.declared.limits.TheConstants.{LONGEST_DELAY}
use Rattle.pf_notes.specs.Walk.{delays_through}
use Rattle.pf_notes.proofs.delays.delays_through.Given as goal

abbrev pub invariant-loop-numbered : goal.invariant-loop-numbered
invariant-loop-numbered l =
    (l.delays ≡ delays_through l.task l.through (take l.numbered-index l.standing)) × (l.delays ≤ l.numbered-index * LONGEST_DELAY)
