use Rattle.std.proofs.Common.{take}
use Rattle.pf_tally.specs.Held.{next_in}
use Rattle.pf_tally.proofs.Holding.{AreHeld}
use Rattle.pf_tally.proofs.held.held_delays.Given as goal

abbrev pub invariant-loop-numbered : goal.invariant-loop-numbered
invariant-loop-numbered l = AreHeld (next_in l.ran) l.task (take l.numbered-index l.events) l.delays.items l.shift
