-- Where a subtask runs in a slot, and why there.
use Rattle.std.specs.Prelude.{ℕ, false, ◌==◌, Bool, nat_le, if◌then◌else◌, Option, None, Some, List}
use Rattle.std.specs.List.{position_from}
use Rattle.std.specs.Option.{option_and_then, option_map, option_map_or}
use Rattle.pf_order.specs.declared.pick.Pick.{Pick}
use Rattle.pf_why.specs.declared.seat.Choice.{Choice}
use Rattle.pf_why.specs.declared.seat.Choice.TheVariants.{Kept, LowestFree, OutOfUse}
use Rattle.pf_why.specs.declared.seat.Seat.{Seat}

-- the task sits on this place
abbrev pub sits : ℕ → Option Pick → Bool
sits task place = option_map_or (λ p. p.task == task) place false

-- the processor of a row on which the task sits
abbrev pub processor_in : List (Option Pick) → ℕ → Option ℕ
processor_in row task = position_from (sits task) 0 row

-- why the task sits on processor p, where it sat on this one in the slot before, and those below count are in use
abbrev pub choice_of : ℕ → Option ℕ → ℕ → Choice
choice_of count None p = LowestFree
choice_of count (Some q) p = if q == p then Kept else if nat_le count q then OutOfUse q else LowestFree

-- where the task runs in a row, if it does, and why there: `before` is the row of the slot before
abbrev pub seat_of : List (Option Pick) → Option (List (Option Pick)) → ℕ → ℕ → Option Seat
seat_of row before count task =
    option_map (λ p. record { processor = p; choice = choice_of count (option_and_then (λ b. processor_in b task) before) p })
    (processor_in row task)
