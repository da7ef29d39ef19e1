use Rattle.std.proofs.Common.{◌≡◌, ◌-◌, ◌≤◌, [], map}
use Rattle.std.specs.Prelude.{max, slice_index_or}
use Rattle.std.specs.List.{range_with_len}
use Rattle.pf_chart.specs.Chart.{processor_cell}
use Rattle.pf_courses.specs.Listing.{count_in}
use Rattle.pf_chart.proofs.block.processor_cells.Given as goal

abbrev pub invariant-loop-t : goal.invariant-loop-t
invariant-loop-t l = record {
  cells : l.cells.items
      ≡ map (λ t. processor_cell l.listed (count_in l.snapshot.state.plan l.snapshot.state.now t) (slice_index_or l.snapshot.rows t []) l.processor) (range_with_len l.from (l.t - l.from));
  short : l.t ≤ max l.from l.to;
}
