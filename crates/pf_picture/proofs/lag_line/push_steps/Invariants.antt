use Rattle.std.proofs.Common.{◌≡◌, ◌≤◌, ◌+◌, ◌-◌, ◌++◌}
use Rattle.std.specs.List.{flat_map, range_with_len}
use Rattle.pf_picture.specs.Lines.{lag_step}
use Rattle.pf_picture.proofs.lag_line.push_steps.Given as goal

abbrev pub invariant-loop-t : goal.invariant-loop-t
invariant-loop-t l = record {
  steps : l.text.items ≡ l.initial.text.items ++ flat_map (lag_step l.lane l.course) (range_with_len (l.first + 1) (l.t - (l.first + 1)));
  short : l.t ≤ l.last + 1;
}
