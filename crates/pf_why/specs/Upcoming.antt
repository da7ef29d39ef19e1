-- What a task inside has next, and whether its clock is stopped.
use Rattle.std.specs.Prelude.{ℕ, ◌+◌, ◌==◌, Bool, ◌&&◌, nat_le, nat_lt, Option, None, List, [], ◌∷◌, ◌++◌, filter_map, find, map}
use Rattle.std.specs.Option.{option_map, option_or}
use Rattle.pf_scenario.specs.Scenario.{Plan}
use Rattle.pf_scenario.specs.declared.event.Numbered.{Numbered}
use Rattle.pf_run.specs.Record.{Slot}
use Rattle.pf_run.specs.Inside.{Joined, join_of}
use Rattle.pf_tally.specs.Clock.{Stop, stop_by}
use Rattle.pf_tally.specs.Held.{delay_from, held_by, next_in, stop_of}
use Rattle.pf_why.specs.declared.halt.Halt.{Halt}
use Rattle.pf_why.specs.declared.upcoming.Upcoming.{Upcoming}
use Rattle.pf_why.specs.Ranking.{next_by, next_of, standing_in}

-- slot t is one of the stop's
abbrev pub is_in_stop : ℕ → Stop → Bool
is_in_stop t s = nat_le s.start t && nat_lt t s.end

-- the one of these stops, which the event of this number makes, that slot t is in
abbrev pub halt_among : ℕ → ℕ → List Stop → Option Halt
halt_among event t stops = option_map (λ s. record { event = event; from = s.start; to = s.end }) (find (is_in_stop t) stops)

-- the stop of the task's clock that slot t is in, by the first of the events xs that makes one, where those `before` are in
-- force before them
abbrev pub halt_behind : List Slot → Joined → ℕ → List Numbered → List Numbered → Option Halt
halt_behind r j t before [] = None
halt_behind r j t before (x ∷ xs) =
    option_or (halt_among x.id t (stop_by r before j x.event)) (halt_behind r j t (before ++ x ∷ []) xs)

-- the task as a join among these events brings it
abbrev pub brought_in : ℕ → List Numbered → ℕ → Option Joined
brought_in base xs task = find (λ j. j.task == task) (filter_map (join_of base) xs)

-- its next subtask at the choice of slot t, where the events xs are in force, and the stop of its clock that t is in
abbrev pub upcoming_of : List Slot → List Numbered → ℕ → Joined → Upcoming
upcoming_of r xs t j = record { next = next_of r xs t j; halt = halt_behind r j t [] xs }

-- the same of the task of this number
abbrev pub upcoming_in : Plan → List Slot → ℕ → ℕ → Option Upcoming
upcoming_in s r t task =
    option_map (upcoming_of r (standing_in s r t) t) (brought_in s.settings.base (standing_in s r t) task)

-- the same stops by the slots in which the task ran, where the first of these events finds this shift
abbrev pub halt_held : (ℕ → ℕ) → Joined → ℕ → ℕ → Numbered → Option Halt
halt_held next j t shift x = halt_among x.id t (map (stop_of j.weight) (held_by next j shift x.event))

abbrev pub halt_from : (ℕ → ℕ) → Joined → ℕ → ℕ → List Numbered → Option Halt
halt_from next j t shift [] = None
halt_from next j t shift (x ∷ xs) = option_or (halt_held next j t shift x) (halt_from next j t (shift + delay_from j x.event) xs)

abbrev pub upcoming_by : Joined → List ℕ → List Numbered → List Numbered → ℕ → Upcoming
upcoming_by j ran own xs t = record { next = next_by j ran own t; halt = halt_from (next_in ran) j t j.slot xs }
