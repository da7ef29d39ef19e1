-- The tasks that came off worst.
use Rattle.std.specs.Prelude.{ℕ, suc, ◌*◌, ℤ, pos, negsuc, Bool, true, false, nat_lt, if◌then◌else◌, Option, None, Some, List, map, filter_map, fold}
use Rattle.std.specs.Option.{option_map}
use Rattle.pf_tally.specs.declared.figures.Figures.{Figures}
use Rattle.pf_verdict.specs.declared.worst.Rated.{Rated}

-- x / p is above y / q, compared exactly
abbrev pub exceeds : ℤ → ℕ → ℤ → ℕ → Bool
exceeds (pos x) p (pos y) q = nat_lt (y * p) (x * q)
exceeds (pos x) p (negsuc y) q = true
exceeds (negsuc x) p (pos y) q = false
exceeds (negsuc x) p (negsuc y) q = nat_lt (suc x * q) (suc y * p)

-- the one with the greater part of its period, the first where they are equal
abbrev pub worse : Option Rated → Rated → Option Rated
worse None next = Some next
worse (Some found) next = Some (if exceeds next.value next.period found.value found.period then next else found)

-- the greatest response of a task with a job
abbrev pub response_of : Figures → Option Rated
response_of f = option_map (λ e. record { task = f.task; value = e.greatest; period = f.period }) f.response

-- the greatest lag of a task, times its period
abbrev pub lag_of : Figures → Rated
lag_of f = record { task = f.task; value = f.lag.greatest; period = f.period }

-- the greatest as a part of its period, the first of several
abbrev pub worst_of : List Rated → Option Rated
worst_of rated = fold worse None rated

abbrev pub worst_response : List Figures → Option Rated
worst_response figures = worst_of (filter_map response_of figures)

abbrev pub worst_lag : List Figures → Option Rated
worst_lag figures = worst_of (map lag_of figures)
