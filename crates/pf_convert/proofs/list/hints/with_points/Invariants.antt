use Rattle.std.proofs.Common.{◌≡◌, take}
use Rattle.pf_convert.specs.List.Hints.{with_points}
use Rattle.pf_convert.proofs.list.hints.with_points.Given as goal

abbrev pub invariant-loop-byte : goal.invariant-loop-byte
invariant-loop-byte l = l.text.items ≡ with_points (take l.byte-index l.field)
