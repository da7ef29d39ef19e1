use Rattle.std.proofs.Common.{◌≡◌, ◌+◌, ◌≤◌, ◌++◌}
use Rattle.std.specs.Prelude.{replicate, vec_len}
use Rattle.std.specs.Vec.{vec_capacity}
use Rattle.pf_heap.proofs.growing.grow.Given as goal

abbrev pub invariant-loop-step : goal.invariant-loop-step
invariant-loop-step g l = record {
  items : l.list.items ≡ l.initial.list.items ++ replicate l.step l.value;
  long : vec_len l.list ≡ vec_len l.initial.list + l.step;
  room : vec_len l.initial.list + l.n ≤ vec_capacity l.list;
}
