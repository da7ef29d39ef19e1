use Rattle.std.proofs.Common.{◌≡◌, ◌+◌, vec_len}
use Rattle.std.specs.Vec.{vec_capacity}
use Rattle.pf_calendar.specs.Steps.{AddsHeaps}
use Rattle.pf_calendar.proofs.names.add_heaps.Given as goal

abbrev pub invariant-loop-i : goal.invariant-loop-i
invariant-loop-i l = record {
  adds : AddsHeaps l.initial.heaps l.heaps l.initial.names.items l.names.items l._i;
  long : vec_len l.names ≡ vec_len l.initial.names + l._i;
  capacity : vec_capacity l.names ≡ vec_capacity l.initial.names;
}
