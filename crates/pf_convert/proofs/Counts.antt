-- Elements counted one after another.
use Rattle.std.proofs.Common.{◌≡◌, ℕ, ◌≤◌, Bool, List, take}
use Rattle.std.specs.List.{count_by}

-- so many of the first elements are so
pub record IsCount {X : Type 0} (p : X → Bool) (xs : List X) (i n : ℕ) : Type 0 where
  pub count : n ≡ count_by p (take i xs)
  pub few : n ≤ i
