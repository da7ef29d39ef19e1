-- Times of up to 7 bytes.
use Rattle.std.specs.Prelude.{ℕ, ◌-◌, ◌/◌, ◌%◌, ◌^◌, ◌==◌, Bool, not, nat_lt, min, if◌then◌else◌, List}
use Rattle.std.specs.Int.{div_ceil}
use Rattle.pf_text.specs.Columns.Decimals.{with_fewest_places}
use Rattle.pf_vocabulary.specs.declared.names.unit.Unit.{Unit}
use Rattle.pf_convert.specs.declared.fit.short.Side.{Side}
use Rattle.pf_convert.specs.declared.fit.short.Side.TheVariants.{Up, Down}
use Rattle.pf_convert.specs.List.Times.{places_of}

-- how many decimals leave 7 bytes beside this whole part and a point
abbrev pub places_beside : ℕ → ℕ
places_beside whole =
    if nat_lt whole 10 then 5 else if nat_lt whole 100 then 4 else if nat_lt whole 1000 then 3 else if nat_lt whole 10000 then 2
    else if nat_lt whole 100000 then 1 else 0

-- how many decimals a time is shown with at most
abbrev pub short_places : Unit → ℕ → ℕ
short_places unit time = min (places_beside (time / 10 ^ places_of unit)) (places_of unit)

-- what the last of them counts, in nanoseconds
abbrev pub step_of : Unit → ℕ → ℕ
step_of unit time = 10 ^ (places_of unit - short_places unit time)

-- it has more decimals
abbrev pub is_long : Unit → ℕ → Bool
is_long unit time = not (time % step_of unit time == 0)

-- how many steps a time is, rounded to a side
abbrev pub steps_to : Side → ℕ → ℕ → ℕ
steps_to Up time step = div_ceil time step
steps_to Down time step = time / step

unfoldable pub short_text : Unit → Side → ℕ → List ℕ
short_text unit side time = with_fewest_places (short_places unit time) (steps_to side time (step_of unit time))
