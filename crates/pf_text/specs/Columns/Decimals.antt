-- Numbers with decimals.
use Rattle.std.specs.Prelude.{ℕ, zero, suc, ℤ, pos, negsuc, ◌+◌, ◌*◌, ◌/◌, ◌%◌, ◌^◌, ◌==◌, nat_lt, if◌then◌else◌, List, [], ◌∷◌, ◌++◌, decimal, codes}
use Rattle.std.specs.Int.{div_ceil}

-- the last k digits of a number
unfoldable pub last_digits : ℕ → ℕ → List ℕ
last_digits zero n = []
last_digits (suc k) n = last_digits k (n / 10) ++ (48 + n % 10) ∷ []

-- n parts of 10^-k: a number with k decimals
unfoldable pub with_places : ℕ → ℕ → List ℕ
with_places k n = decimal (n / 10 ^ k) ++ codes "." ++ last_digits k n

-- the same with as few decimals as tell it, and no point where none does
unfoldable pub with_fewest_places : ℕ → ℕ → List ℕ
with_fewest_places zero n = decimal n
with_fewest_places (suc k) n = if n % 10 == 0 then with_fewest_places k (n / 10) else with_places (suc k) n

-- a / b with k decimals, rounded up
abbrev pub up : ℕ → ℕ → ℕ → List ℕ
up a b k = with_places k (div_ceil (a * 10 ^ k) b)

-- a / b with k decimals, the rest cut off
abbrev pub cut : ℕ → ℕ → ℕ → List ℕ
cut a b k = with_places k (a * 10 ^ k / b)

-- the same of a whole number that may be below 0: towards 0, and with a sign only where a digit that is shown is not 0
abbrev pub signed_cut : ℤ → ℕ → ℕ → List ℕ
signed_cut (pos a) b k = cut a b k
signed_cut (negsuc a) b k = (if nat_lt 0 (suc a * 10 ^ k / b) then codes "-" else []) ++ cut (suc a) b k
