use Rattle.std.proofs.Common.{◌≡◌, ◌+◌, ◌*◌, ◌≤◌, ◌++◌, vec_len, vec_capacity}
use Rattle.pf_place.specs.Packed.{even_ends}
use Rattle.pf_place.proofs.packed_rows.push_ends.Given as goal

abbrev pub invariant-loop-k : goal.invariant-loop-k
invariant-loop-k l = record {
  items : l.ends.items ≡ l.initial.ends.items ++ even_ends 0 l.width l._k;
  end : l.end ≡ l._k * l.width;
  within : l._k ≤ l.count;
  many : vec_len l.ends ≡ vec_len l.initial.ends + l._k;
  room : vec_capacity l.ends ≡ vec_capacity l.initial.ends;
}
