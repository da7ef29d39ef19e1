use Rattle.std.proofs.Common.{◌≡◌, ℕ, vec_len}
use Rattle.pf_collections.specs.Table.Lists.{noted_of}
use Rattle.pf_collections.proofs.table.lists.grow.Given as goal

abbrev pub invariant-loop-place : goal.invariant-loop-place
invariant-loop-place g l = record {
  long : vec_len l.lists ≡ l._place;
  same : (t : ℕ) → noted_of l.lists.items t ≡ noted_of l.initial.lists.items t;
}
