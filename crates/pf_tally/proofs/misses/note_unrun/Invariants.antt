use Rattle.std.proofs.Common.{◌≡◌, ◌++◌, ◌-◌, ℕ, List, length}
use Rattle.pf_tally.specs.Late.{late_misses}
use Rattle.pf_tally.specs.declared.miss.Miss.{Miss}
use Rattle.pf_tally.proofs.misses.note_unrun.Given as goal

abbrev pub invariant-loop-i : goal.invariant-loop-i
invariant-loop-i l = (ran : List ℕ) (start : List Miss) → length ran ≡ l.received →
    l.initial.misses.items ≡ start ++ late_misses l.task ran l.delays l.last l.received → l.misses.items ≡ start ++ late_misses l.task ran l.delays l.last (l.i - 1)
