use Rattle.std.proofs.Common.{◌≡◌, ◌++◌, take}
use Rattle.std.specs.List.{flat_map}
use Rattle.pf_picture.specs.Lines.{stop_text}
use Rattle.pf_picture.proofs.marks.push_stops.Given as goal

abbrev pub invariant-loop-stop : goal.invariant-loop-stop
invariant-loop-stop l = l.text.items ≡ l.initial.text.items ++ flat_map (stop_text l.lane) (take l.stop-index l.stops)
