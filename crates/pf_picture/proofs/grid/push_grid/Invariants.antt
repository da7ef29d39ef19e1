use Rattle.std.proofs.Common.{◌≡◌, ◌-◌, ◌++◌, ◌≤◌, ◌+◌}
use Rattle.std.specs.List.{flat_map, range_with_len}
use Rattle.pf_picture.specs.Grid.{grid_line}
use Rattle.pf_picture.proofs.grid.push_grid.Given as goal

abbrev pub invariant-loop-t : goal.invariant-loop-t
invariant-loop-t l = record {
  text : l.text.items ≡ l.initial.text.items ++ flat_map (grid_line l.scale l.bottom) (range_with_len l.scale.from (l.t - l.scale.from));
  from : l.scale.from ≤ l.t;
  short : l.t ≤ l.to + 1;
}
