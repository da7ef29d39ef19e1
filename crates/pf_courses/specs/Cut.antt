-- Where a list is cut by a test.
use Rattle.std.specs.Prelude.{◌≡◌, ℕ, ◌<◌, ◌≤◌, Bool, true, false, List, length, slice_index_or}

-- the first k pass the test, and no others
pub record IsCut {X : Type 0} (test : X → Bool) (k : ℕ) (xs : List X) : Type 0 where
  pub within : k ≤ length xs
  pub before : (i : ℕ) (d : X) → i < k → test (slice_index_or xs i d) ≡ true
  pub behind : (i : ℕ) (d : X) → k ≤ i → i < length xs → test (slice_index_or xs i d) ≡ false
