-- What is counted where nothing was done, and where more may be.
use Rattle.std.proofs.Common.{ℕ, ◌+◌, ◌≤◌, arith}
use Rattle.pf_order.specs.Counts.{Counts}
use Rattle.pf_order.specs.Counted.{CountsAtMost}

pub counts_none : (n : ℕ) (c : Counts) → CountsAtMost n c c
counts_none n c = record { never_falls = omega arith; at_most = omega arith }

pub at_most_more : (a b : ℕ) → a ≤ a + b
at_most_more a b = omega arith
