use Rattle.std.proofs.Common.{◌≡◌, ◌++◌, take}
use Rattle.std.specs.List.{flat_map}
use Rattle.pf_picture.specs.Lines.{denied_text}
use Rattle.pf_picture.proofs.marks.push_all_denied.Given as goal

abbrev pub invariant-loop-event : goal.invariant-loop-event
invariant-loop-event l = l.text.items ≡ l.initial.text.items ++ flat_map (denied_text l.scale l.v) (take l.event-index l.denied)
