use Rattle.std.proofs.Common.{◌≡◌, ◌*◌, vec_len, vec_capacity}
use Rattle.pf_order.specs.Counts.{Compares}
use Rattle.pf_heap.specs.Digits.{digits}
use Rattle.pf_calendar.specs.Queues.{key_count}
use Rattle.pf_engine.specs.Taking.{Chooses}
use Rattle.pf_engine.proofs.agenda.choose.Given as goal

abbrev pub invariant-loop : goal.invariant-loop
invariant-loop l = record {
  first : Chooses l.fn.calendar l.calendar l.picks.items;
  few : vec_len l.picks ≡ l.counter;
  room : vec_capacity l.picks ≡ vec_capacity l.fn.picks;
  comparisons : Compares (l.counter * (2 * digits (key_count l.fn.calendar))) l.fn.meter l.meter;
}
