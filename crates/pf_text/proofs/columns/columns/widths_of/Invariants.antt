use Rattle.std.proofs.Common.{◌≡◌, map}
use Rattle.std.specs.List.{range_with_len}
use Rattle.pf_text.specs.Columns.Columns.{width_of}
use Rattle.pf_text.proofs.columns.columns.widths_of.Given as goal

abbrev pub invariant-loop-column : goal.invariant-loop-column
invariant-loop-column l = l.widths.items ≡ map (width_of l.rows) (range_with_len 0 l.column)
