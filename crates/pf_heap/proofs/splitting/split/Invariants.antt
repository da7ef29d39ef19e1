use Rattle.std.specs.Prelude.{◌≡◌, ◌+◌, ℕ}
use Rattle.pf_heap.specs.Forest.{none, tree}
use Rattle.pf_heap.specs.Split.{HasTreeOf, IsSplitting}
use Rattle.pf_heap.proofs.splitting.split.Given as goal

abbrev pub invariant-loop-step : goal.invariant-loop-step
invariant-loop-step l =
    (can : HasTreeOf l.fn.nodes l.fn.root l.fn.at) → (rank : ℕ) → rank + l.step ≡ can.rank
    → IsSplitting l.nodes rank l.at (tree l.fn.root can.key can.rank can.kids none) can.others l.half l.halves
