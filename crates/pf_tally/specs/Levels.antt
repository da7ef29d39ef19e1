-- The load and the room of a run's slots, from slot to slot in which one of them changes.
use Rattle.std.specs.Prelude.{ℕ, ◌-◌, ◌==◌, Bool, false, not, ◌&&◌, ◌||◌, nat_le, if◌then◌else◌, List, [], ◌∷◌, ◌++◌, length, map, filter}
use Rattle.std.specs.List.{range_with_len, slice_get}
use Rattle.std.specs.Option.{option_map_or}
use Rattle.pf_scenario.specs.Scenario.{Plan}
use Rattle.pf_run.specs.Record.{Slot}
use Rattle.pf_tally.specs.Load.{load_in, room_in}
use Rattle.pf_tally.specs.declared.level.Level.{Level}

abbrev pub level_in : Plan → List Slot → ℕ → Level
level_in s r t = record { slot = t; load = load_in s r t; room = room_in s r t }

-- load and room are these
abbrev pub has_level : ℕ → ℕ → Level → Bool
has_level load room level = level.load == load && level.room == room

-- load and room are those of the slot before
abbrev pub is_as_before : Plan → List Slot → Level → Bool
is_as_before s r level = has_level level.load level.room (level_in s r (level.slot - 1))

-- of the slots from `from` on and below `to`: the first one, and those in which load or room is another than in the slot before
abbrev pub levels_of : Plan → List Slot → ℕ → ℕ → List Level
levels_of s r from to =
    filter (λ level. level.slot == from || not (is_as_before s r level)) (map (level_in s r) (range_with_len from (to - from)))

-- after these levels the slots from `from` on and below `to`, each with this load and room
abbrev pub with_level : List Level → ℕ → ℕ → ℕ → ℕ → List Level
with_level levels from to load room =
    if nat_le to from || option_map_or (has_level load room) (slice_get levels (length levels - 1)) false then levels
    else levels ++ record { slot = from; load = load; room = room } ∷ []
