-- What a meter has counted.
use Rattle.std.specs.Prelude.{◌≡◌, ℕ, ◌+◌, ◌-◌, ◌≤◌, ◌^◌, min}

-- comparisons of keys, and slots
pub record Counts : Type 0 where
  pub compared : ℕ
  pub slots : ℕ

-- one more, but never above the greatest value of a counter
abbrev pub one_more : ℕ → ℕ
one_more n = min (n + 1) (2 ^ 64 - 1)

-- one comparison more
abbrev pub compared_once : Counts → Counts
compared_once c = record c { compared = one_more c.compared }

-- one slot more
abbrev pub slot_once : Counts → Counts
slot_once c = record c { slots = one_more c.slots }

-- at most n comparisons more: the counter of comparisons rises by no more than n (one at its greatest value stays
-- there) and never falls, and that of slots is the same
pub record Compares (n : ℕ) (old new : Counts) : Type 0 where
  pub never_falls : old.compared ≤ new.compared
  pub at_most : new.compared ≤ old.compared + n
  pub slots : new.slots ≡ old.slots
