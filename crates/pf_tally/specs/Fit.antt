-- The first slot of a run whose load is above its room, and the fit of some slots more.
use Rattle.std.specs.Prelude.{ℕ, ◌+◌, ◌-◌, ◌*◌, ◌<◌, ◌≤◌, ◌&&◌, nat_lt, if◌then◌else◌, Option, None, Some, List}
use Rattle.pf_scenario.specs.Scenario.{Plan}
use Rattle.pf_run.specs.Record.{Slot}
use Rattle.pf_tally.specs.Load.{load_in, room_in}
use Rattle.pf_tally.specs.declared.fit.Fit.{Fit}

-- of the slots below t, it is the first whose load is above its room, or there is none
abbrev pub IsFirstAbove : Plan → List Slot → ℕ → Option ℕ → Type 0
IsFirstAbove s r t None = (v : ℕ) → v < t → load_in s r v ≤ room_in s r v
IsFirstAbove s r t (Some u) = (u < t) × (room_in s r u < load_in s r u) × ((v : ℕ) → v < u → load_in s r v ≤ room_in s r v)

-- the slot before, or this one
abbrev pub or_slot : Option ℕ → ℕ → Option ℕ
or_slot None t = Some t
or_slot (Some u) t = Some u

-- the fit of the slots below `to`, where that of those below `from` is known, and each from there on has this load and room
abbrev pub fit_with : Fit → ℕ → ℕ → ℕ → ℕ → Fit
fit_with fit from to load room = record {
  first = if nat_lt from to && nat_lt room load then or_slot fit.first from else fit.first;
  overload = fit.overload + (to - from) * (load - room);
}
