use Rattle.std.proofs.Common.{◌≡◌, ◌+◌, ◌-◌, ◌<◌, ◌^◌, length}
use Rattle.pf_plain_script.specs.Plain.{first_column, plain_from, start, with_heading}
use Rattle.pf_plain_script.specs.Ways.{IsAhead, course_of}
use Rattle.pf_plain_script.proofs.plain.write_plain.Given as goal

-- what was written, and what belongs to the rows that are left, is the whole
abbrev pub invariant-rows : goal.invariant-rows
invariant-rows l = record {
  ahead : IsAhead l.writer (plain_from (first_column l.positions) (course_of l.writer) l.number l.rows.end l.rows.rows)
      (with_heading (first_column l.fn.positions) l.fn.line (plain_from (first_column l.fn.positions) start 2 l.fn.rows.end l.fn.rows.rows));
  text : l.positions ≡ l.fn.positions;
  few : l.number + length l.rows.rows < 2 ^ 64 - 1;
}

abbrev pub decreases-rows : goal.decreases-rows
decreases-rows l = length l.rows.rows
