-- Comparisons that are counted one after another.
use Rattle.std.proofs.Common.{ℕ, ◌+◌, ◌≤◌, refl, arith}
use Rattle.pf_order.specs.Counts.{Counts, Compares}

pub compares_none : (c : Counts) → Compares 0 c c
compares_none c = record { never_falls = omega arith; at_most = omega arith; slots = refl }

pub compares_within : {n m : ℕ} {c d : Counts} → n ≤ m → Compares n c d → Compares m c d
compares_within within few = record { never_falls = few.never_falls; at_most = omega (arith, few.at_most); slots = few.slots }

pub compares_both : {n m : ℕ} {c d e : Counts} → Compares n c d → Compares m d e → Compares (n + m) c e
compares_both few more = record {
  never_falls = omega (arith, few.never_falls, more.never_falls);
  at_most = omega (arith, few.at_most, more.at_most);
  slots = omega (arith, few.slots, more.slots);
}
