use Rattle.std.proofs.Common.{◌≡◌, ◌-◌, ◌≤◌, map}
use Rattle.std.specs.Prelude.{max}
use Rattle.std.specs.List.{range_with_len}
use Rattle.pf_chart.specs.Chart.{row_cell}
use Rattle.pf_chart.proofs.task_lines.row_cells.Given as goal

abbrev pub invariant-loop-t : goal.invariant-loop-t
invariant-loop-t l = record {
  cells : l.cells.items ≡ map (row_cell l.row l.listed) (range_with_len l.from (l.t - l.from));
  short : l.t ≤ max l.from l.to;
}
