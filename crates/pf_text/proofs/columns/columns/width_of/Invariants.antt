use Rattle.std.proofs.Common.{◌≡◌, drop}
use Rattle.std.specs.Prelude.{max}
use Rattle.pf_text.specs.Columns.Columns.{width_of}
use Rattle.pf_text.proofs.columns.columns.width_of.Given as goal

abbrev pub invariant-loop-row : goal.invariant-loop-row
invariant-loop-row l = max l.width (width_of (drop l.row-index l.rows) l.column) ≡ width_of l.rows l.column
