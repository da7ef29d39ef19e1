use Rattle.std.proofs.Common.{◌≡◌, ◌+◌, ◌++◌, take, vec_len, vec_capacity}
use Rattle.pf_place.proofs.packed_rows.unpack.Given as goal

abbrev pub invariant-loop-place : goal.invariant-loop-place
invariant-loop-place l = record {
  items : l.places.items ≡ l.initial.places.items ++ take l.place-index l.small;
  many : vec_len l.places ≡ vec_len l.initial.places + l.place-index;
  room : vec_capacity l.places ≡ vec_capacity l.initial.places;
}
