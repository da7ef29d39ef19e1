-- Of how many quanta the strips of the lags are.
use Rattle.std.specs.Prelude.{ℕ, suc, ◌+◌, ◌-◌, max, min, ℤ, pos, negsuc, List}
use Rattle.std.specs.Int.{div_ceil}
use Rattle.std.specs.List.{fold, range_with_len}
use Rattle.std.specs.Option.{option_map_or}
use Rattle.pf_courses.specs.Course.{Track}
use Rattle.pf_picture.specs.Drawing.{Drawing}
use Rattle.pf_picture.specs.Lines.{lag_at}

-- a lag without its sign, in quanta, rounded up
abbrev pub quanta_of : ℕ → ℤ → ℕ
quanta_of period (pos v) = div_ceil v period
quanta_of period (negsuc v) = div_ceil (suc v) period

abbrev pub quanta_at : Track → ℕ → ℕ
quanta_at track t = quanta_of track.weight.period (lag_at track t)

-- the greatest of these slots, and `least` at the least
abbrev pub greatest_over : Track → ℕ → ℕ → ℕ → ℕ
greatest_over track first behind least = fold (λ most t. max most (quanta_at track t)) least (range_with_len first (behind - first))

-- that of the slots from the join to the end of a task that are shown
abbrev pub greatest_in : ℕ → ℕ → ℕ → Track → ℕ
greatest_in from to least track = greatest_over track (max track.joined from) (min track.end to + 1) least

-- that of all listed tasks
abbrev pub strips_from : ℕ → ℕ → ℕ → List Drawing → ℕ
strips_from from to least drawings = fold (λ most drawing. option_map_or (greatest_in from to most) drawing.listing.track most) least drawings

abbrev pub strips_of : ℕ → ℕ → List Drawing → ℕ
strips_of from to drawings = strips_from from to 1 drawings
