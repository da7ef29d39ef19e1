-- What a symbol's bytes are.
use Rattle.std.proofs.Common.{◌≡◌, ℕ, ◌≤◌, true, List, length, rules, tests}
use Rattle.pf_code.specs.Symbol.{is_symbol}

pub is_short : (word : List ℕ) → is_symbol word ≡ true → length word ≤ 31
unfolding is_symbol
is_short word e = search (rules, tests)
