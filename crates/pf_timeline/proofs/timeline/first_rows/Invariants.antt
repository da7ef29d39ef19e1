use Rattle.std.proofs.Common.{◌≡◌, ◌≤◌, ◌+◌, ◌-◌, length, take}
use Rattle.pf_timeline.proofs.timeline.first_rows.Given as goal

abbrev pub invariant-loop : goal.invariant-loop
invariant-loop l = record {
  first : l.first ≡ take (length l.rows + l.count - l.counter) l.rows;
  from : l.count ≤ l.counter;
}
