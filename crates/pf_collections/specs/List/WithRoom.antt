-- Items, and room for more.
use Rattle.std.specs.Prelude.{ℕ, List}

-- the items, and how many more can be appended without memory
pub record WithRoom (X : Type 0) : Type 0 where
  pub items : List X
  pub room : ℕ
