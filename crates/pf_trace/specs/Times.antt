-- Times in microseconds.
use Rattle.std.specs.Prelude.{ℕ, ◌+◌, ◌*◌, ◌/◌, ◌%◌, ◌==◌, if◌then◌else◌, List, [], ◌∷◌, ◌++◌}
use Rattle.std.specs.Fmt.{decimal}

-- so many thousandths, below 1000, after a point and without zeros at their end
abbrev pub fraction_text : ℕ → List ℕ
fraction_text n =
    if n == 0 then []
    else if n % 100 == 0 then 46 ∷ (48 + n / 100) ∷ []
    else if n % 10 == 0 then 46 ∷ (48 + n / 100) ∷ (48 + n / 10 % 10) ∷ []
    else 46 ∷ (48 + n / 100) ∷ (48 + n / 10 % 10) ∷ (48 + n % 10) ∷ []

-- so many nanoseconds
abbrev pub microseconds_text : ℕ → List ℕ
microseconds_text n = decimal (n / 1000) ++ fraction_text (n % 1000)

-- so many slots, each of so many nanoseconds
abbrev pub time_text : ℕ → ℕ → List ℕ
time_text step slots = microseconds_text (slots * step)
