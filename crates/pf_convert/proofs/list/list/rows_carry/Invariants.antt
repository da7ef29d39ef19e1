use Rattle.std.proofs.Common.{◌≡◌}
use Rattle.pf_convert.specs.List.Reading.{rows_carry}
use Rattle.pf_convert.proofs.list.list.rows_carry.Given as goal

abbrev pub invariant-loop-number : goal.invariant-loop-number
invariant-loop-number l = rows_carry l.heading l.number l.rows.rows ≡ rows_carry l.heading 0 l.initial.rows.rows
