use Rattle.pf_heap.specs.Split.{IsClimbing}
use Rattle.pf_heap.proofs.splitting.top.Given as goal

abbrev pub invariant-loop-step : goal.invariant-loop-step
invariant-loop-step l = IsClimbing l.nodes l.at l.now l.step
