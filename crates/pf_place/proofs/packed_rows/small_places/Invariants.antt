use Rattle.std.proofs.Common.{◌≡◌, ◌≤◌, length, take, vec_len, vec_capacity}
use Rattle.pf_place.proofs.packed_rows.small_places.Given as goal

abbrev pub invariant-loop-place : goal.invariant-loop-place
invariant-loop-place l = record {
  items : l.small.items ≡ take l.place-index l.places;
  many : vec_len l.small ≡ l.place-index;
  room : length l.places ≤ vec_capacity l.small;
}
