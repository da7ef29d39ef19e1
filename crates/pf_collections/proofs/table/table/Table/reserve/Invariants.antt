use Rattle.std.proofs.Common.{◌≡◌, ◌+◌, ◌≤◌, ◌++◌}
use Rattle.std.specs.Prelude.{replicate, vec_len}
use Rattle.std.specs.Vec.{vec_capacity}
use Rattle.pf_collections.proofs.table.table.Table.reserve.Given as goal

abbrev pub invariant-loop-number : goal.invariant-loop-number
invariant-loop-number g l = record {
  values : l.self-inside.values.items ≡ l.initial.self-inside.values.items ++ replicate l._number l.initial.self-inside.fill;
  long : vec_len l.self-inside.values ≡ vec_len l.initial.self-inside.values + l._number;
  fill : l.self-inside.fill ≡ l.initial.self-inside.fill;
  room : vec_len l.initial.self-inside.values + l.more ≤ vec_capacity l.self-inside.values;
}
