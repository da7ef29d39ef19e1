use Rattle.std.proofs.Common.{◌≡◌, ◌+◌, ◌*◌, ◌≤◌, ◌++◌, length, drop, vec_len, vec_capacity}
use Rattle.pf_engine.specs.Kept.{kept_after_events, denials_of_slot}
use Rattle.pf_order.specs.Counts.{Compares}
use Rattle.pf_heap.specs.Digits.{digits}
use Rattle.pf_engine.specs.Points.{IsAt}
use Rattle.pf_engine.proofs.state.State.take_events.Given as goal

abbrev pub invariant-loop-x : goal.invariant-loop-x
invariant-loop-x l = record {
  at : IsAt l.self.kept (drop l.x-index l.events);
  now : l.slot ≡ l.self.kept.now;
  numbers : l.self.numbers ≡ l.fn.self.numbers;
  spare : length l.events ≤ l.self.spare + l.x-index;
  memory : vec_len l.denials + length l.events ≤ vec_capacity l.denials + l.x-index;
  kept : kept_after_events l.self.kept (drop l.x-index l.events) ≡ kept_after_events l.fn.self.kept l.events;
  few : length l.self.kept.tasks ≤ length l.fn.self.kept.tasks + l.x-index;
  comparisons : Compares (l.x-index * (3 * digits (length l.fn.self.kept.tasks + length l.events))) l.fn.meter l.meter;
  given : l.denials.items ++ denials_of_slot l.self.kept (drop l.x-index l.events) ≡ l.fn.denials.items ++ denials_of_slot l.fn.self.kept l.events;
}
