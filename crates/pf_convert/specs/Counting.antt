-- How many parts cover a time, and how many fit into it.
use Rattle.std.specs.Prelude.{ℕ, ◌*◌, ◌≤◌}

-- so many parts, each as long as `part`, take as long as the time, and no fewer do
pub record IsLeastCover (time part n : ℕ) : Type 0 where
  pub covers : time ≤ n * part
  pub least : (m : ℕ) → time ≤ m * part → n ≤ m

-- so many parts fit into the time, and no more do
pub record IsMostWithin (time part n : ℕ) : Type 0 where
  pub within : n * part ≤ time
  pub most : (m : ℕ) → m * part ≤ time → m ≤ n
