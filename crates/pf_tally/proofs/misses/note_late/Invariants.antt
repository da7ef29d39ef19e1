use Rattle.std.proofs.Common.{◌≡◌, ◌++◌, nat_le, filter, take}
use Rattle.pf_tally.proofs.misses.note_late.Given as goal

abbrev pub invariant-loop-miss : goal.invariant-loop-miss
invariant-loop-miss l = l.misses.items ≡ l.initial.misses.items ++ filter (λ m. nat_le m.deadline l.last) (take l.miss-index l.late)
