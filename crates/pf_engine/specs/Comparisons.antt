-- How many comparisons of keys a slot may cost.
use Rattle.std.specs.Prelude.{ℕ, ◌+◌, ◌*◌}
use Rattle.pf_heap.specs.Digits.{digits}

-- the most comparisons of a slot with c processors in use, and with n tasks inside before its g events: 4c + 2 + 4g for
-- each binary digit of n + g
abbrev pub most_comparisons : ℕ → ℕ → ℕ → ℕ
most_comparisons c n g = (4 * c + 2 + 4 * g) * digits (n + g)
