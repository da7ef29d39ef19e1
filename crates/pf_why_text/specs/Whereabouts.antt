-- Where a task is at a slot's choice, and in words.
use Rattle.std.specs.Prelude.{ℕ, ◌+◌, ◌==◌, if◌then◌else◌, Option, None, Some, List, [], ◌++◌, codes, length, position}
use Rattle.std.specs.Fmt.{decimal}
use Rattle.std.specs.List.{slice_get}
use Rattle.std.specs.Option.{option_and_then, option_map, option_map_or, option_or}
use Rattle.pf_scenario.specs.Scenario.{past}
use Rattle.pf_run.specs.Computed.{run_of}
use Rattle.pf_desk.specs.Desk.{Seen}
use Rattle.pf_vocabulary.specs.Names.Names.{name_of}
use Rattle.pf_vocabulary.specs.declared.names.named.Named.{Named}
use Rattle.pf_notes.specs.Absence.{absence_of, absence_text}
use Rattle.pf_notes.specs.Subject.{task_text}
use Rattle.pf_why.specs.declared.halt.Halt.{Halt}
use Rattle.pf_why.specs.declared.subtask.Subtask.{Subtask}
use Rattle.pf_why.specs.declared.upcoming.Upcoming.{Upcoming}
use Rattle.pf_why.specs.Upcoming.{upcoming_in}
use Rattle.pf_why_text.specs.declared.whereabouts.Whereabouts.{Whereabouts}
use Rattle.pf_why_text.specs.declared.whereabouts.Whereabouts.TheVariants.{Ranked, Absent, Waits}
use Rattle.pf_why_text.specs.Answer.{answer_text, subtask_text}
use Rattle.pf_why_text.specs.Ranks.{Seats, last_that_runs, seat_in_slot}

-- the subtask of a task in a ranking, with its rank
abbrev pub ranked_in : List Subtask → ℕ → Option Whereabouts
ranked_in ranking task =
    option_and_then (λ place. option_map (Ranked (place + 1)) (slice_get ranking place)) (position (λ x. x.task == task) ranking)

-- the first that holds at the choice of slot t, whose ranking this is: the task is in the ranking, it is not inside, or its next
-- subtask may not run yet
abbrev pub whereabouts_in : Seen → List Subtask → ℕ → ℕ → Option Whereabouts
whereabouts_in seen ranking t task =
    option_or (ranked_in ranking task)
    (option_or (option_map Absent (absence_of seen.state.plan.events seen.denials (past seen.state.plan (t + 1)) t task))
    (option_map Waits (upcoming_in seen.state.plan (run_of seen.state.plan seen.state.now) t task)))

-- its rank, and what it does
abbrev pub ranked_text : List Named → Seats → List Subtask → ℕ → Subtask → List ℕ
ranked_text names seats ranking rank x =
    (subtask_text names x.task x.sub ++ (codes " has rank " ++ (decimal rank ++ (codes " of " ++ (decimal (length ranking) ++ codes ", ")))))
    ++ answer_text names seats.slot (last_that_runs seats ranking) (seat_in_slot seats x) x

-- when it is released, and from when on it may run, where that is another slot
abbrev pub first_text : Subtask → List ℕ
first_text x = if x.first == x.release then [] else codes " and may run from slot " ++ (decimal x.first ++ codes " on")

abbrev pub halt_text : Option Halt → List ℕ
halt_text None = []
halt_text (Some h) =
    codes "; its clock is stopped from slot " ++ (decimal h.from ++ (codes " to " ++ (decimal h.to ++ (codes " (event " ++ (decimal h.event ++ codes ")")))))

abbrev pub upcoming_text : List Named → Upcoming → List ℕ
upcoming_text names u =
    subtask_text names u.next.task u.next.sub ++ (codes " is released in slot " ++ (decimal u.next.release ++ (first_text u.next ++ halt_text u.halt)))

-- the sentence
abbrev pub whereabouts_text : List Named → Seats → List Subtask → ℕ → Whereabouts → List ℕ
whereabouts_text names seats ranking task (Ranked rank x) = ranked_text names seats ranking rank x
whereabouts_text names seats ranking task (Absent absence) = absence_text (name_of names task) task absence
whereabouts_text names seats ranking task (Waits u) = upcoming_text names u

-- the sentence on a task in the slot of these seats
abbrev pub told_of : List Named → Seats → List Subtask → ℕ → Option Whereabouts → List ℕ
told_of names seats ranking task place = option_map_or (whereabouts_text names seats ranking task) place []

-- its line, where a task is asked for
abbrev pub asked_line : List Named → Seen → Seats → List Subtask → ℕ → List ℕ
asked_line names seen seats ranking task =
    task_text (name_of names task) task
    ++ (codes ": " ++ (told_of names seats ranking task (whereabouts_in seen ranking seats.slot task) ++ codes "\n"))

abbrev pub asked_text : List Named → Seen → Seats → List Subtask → Option ℕ → List ℕ
asked_text names seen seats ranking None = []
asked_text names seen seats ranking (Some task) = asked_line names seen seats ranking task
