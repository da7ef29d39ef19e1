-- The lag of a task, by the slots in which it ran and by its delays.
use Rattle.std.specs.Prelude.{ℕ, ◌-◌, ◌*◌, ℤ, pos, ◌-ℤ◌, nat_lt, List, count_by}
use Rattle.pf_run.specs.Inside.{Joined}
use Rattle.pf_tally.specs.Held.{stopped_below}
use Rattle.pf_tally.specs.declared.held.Held.{Held}

-- the lag after the first t slots, times the period, of a task that received so many quanta in them
abbrev pub lag_with : Joined → List Held → ℕ → ℕ → ℤ
lag_with j held received t =
    pos (j.weight.cost * (t - j.slot - stopped_below t j.weight held)) -ℤ pos (j.weight.period * received)

-- the same of a task that ran in these slots
abbrev pub lag_by : Joined → List ℕ → List Held → ℕ → ℤ
lag_by j ran held t = lag_with j held (count_by (λ q. nat_lt q t) ran) t
