-- The worked examples of rows, computed.
use Rattle.std.proofs.Common.{refl}
use Rattle.pf_place.specs.Occupancy.{row_of}
use Rattle.pf_laws.specs.Examples.Rows.{WorkedRows}

pub worked_rows : WorkedRows
unfolding row_of
worked_rows = record {
  three = refl;
  passed_over = refl;
  both_stay = refl;
  out_of_use = refl;
  idle_two = refl;
  in_a_run = refl;
}
