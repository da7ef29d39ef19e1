use Rattle.std.proofs.Common.{◌≡◌, take, filter_map}
use Rattle.pf_notes.specs.Leavers.{left_by}
use Rattle.pf_notes.proofs.inside.leaving.Given as goal

abbrev pub invariant-loop-numbered : goal.invariant-loop-numbered
invariant-loop-numbered l = l.tasks.items ≡ filter_map left_by (take l.numbered-index l.standing)
