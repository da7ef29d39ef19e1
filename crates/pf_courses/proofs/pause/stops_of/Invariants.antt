use Rattle.std.proofs.Common.{◌≡◌, map, take}
use Rattle.pf_tally.specs.Held.{stop_of}
use Rattle.pf_courses.proofs.pause.stops_of.Given as goal

abbrev pub invariant-loop-held : goal.invariant-loop-held
invariant-loop-held l = l.stops.items ≡ map (stop_of l.weight) (take l.held-index l.delays)
