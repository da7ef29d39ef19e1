use Rattle.std.proofs.Common.{◌≡◌, take}
use Rattle.pf_trace.specs.Trace.{moments_of}
use Rattle.pf_trace.proofs.trace.moments_of.Given as goal

abbrev pub invariant-loop-numbered : goal.invariant-loop-numbered
invariant-loop-numbered l = l.moments.items ≡ moments_of l.denials (take l.numbered-index l.events)
