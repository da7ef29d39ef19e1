-- How the denied events are told.
use Rattle.std.specs.Prelude.{ℕ, List, map}
use Rattle.std.specs.List.Sorted.{IsPermutation, IsNonDecreasing}
use Rattle.pf_run.specs.declared.denied.Denied.{Denied}

-- the numbers of these denials, rising
pub record AreNumbersOf (denials : List Denied) (numbers : List ℕ) : Type 0 where
  pub same : IsPermutation (map (λ d. d.id) denials) numbers
  pub rising : IsNonDecreasing numbers
