-- The first of a list of keys, in the order.
use Rattle.std.specs.Prelude.{ℕ, zero, suc, ◌<◌, ◌==◌, ◌↔◌, IsTrue, List, [], ◌++◌, filter, count_by, Contains, AllPairs}
use Rattle.pf_order.specs.Priority.{Priority, precedes}

-- how many of these keys precede k
abbrev pub rank : List Priority → Priority → ℕ
rank keys k = count_by (λ x. precedes x k) keys

-- `chosen` are the first `count` of these keys: exactly those that fewer than `count` of them precede, in order
pub record AreFirst (count : ℕ) (keys chosen : List Priority) : Type 0 where
  pub exactly : (k : Priority) → Contains chosen k ↔ (Contains keys k × (rank keys k < count))
  pub in_order : AllPairs (λ x y. IsTrue (precedes x y)) chosen

-- the same keys, computed: in place c the key that exactly c of them precede
abbrev pub first_keys : ℕ → List Priority → List Priority
first_keys zero keys = []
first_keys (suc c) keys = first_keys c keys ++ filter (λ k. rank keys k == c) keys
