use Rattle.std.specs.Prelude.{◌≡◌, ◌≤◌, vec_len, vec_capacity}
use Rattle.pf_share.specs.Opening.{new_viewers}
use Rattle.pf_share.proofs.publication.make_viewers.Given as goal

abbrev pub invariant-loop : goal.invariant-loop
invariant-loop g l = record {
  made : l.viewers.items ≡ new_viewers l.stamp.origin l.counter;
  len : vec_len l.viewers ≡ l.counter;
  room : l.count ≤ vec_capacity l.viewers;
  same : l.publisher ≡ l.fn.publisher;
}
