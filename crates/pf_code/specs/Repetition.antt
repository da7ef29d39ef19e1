-- Whether a table repeats, and why that is not known.
use Rattle.std.specs.Prelude.{ℕ, ◌*◌, ◌==◌, ◌&&◌, Bool, false, not, nat_le, nat_lt, if◌then◌else◌, Option, None, Some, List}
use Rattle.std.specs.List.{list_all}
use Rattle.pf_scenario.specs.Scenario.{Plan}
use Rattle.pf_scenario.specs.declared.event.Event.{Event}
use Rattle.pf_scenario.specs.declared.event.Event.TheVariants.{Join}
use Rattle.pf_run.specs.Computed.{run_of}
use Rattle.pf_run.specs.Inside.{Joined}
use Rattle.pf_tally.specs.Lags.{by_task}
use Rattle.pf_tally.specs.Load.{load_in}
use Rattle.pf_desk.specs.Desk.{Seen}
use Rattle.pf_laws.specs.Repetition.Synchronous.{tasks_in}
use Rattle.pf_code.specs.Span.{least_span}
use Rattle.pf_code.specs.declared.repetition.Repetition.{Repetition}
use Rattle.pf_code.specs.declared.repetition.Repetition.TheVariants.{Every, OtherEvents, NoSlot, Overload, OutOfRange}

-- the event is a join of slot 0, of a task that never runs early
abbrev pub joins_at_start : Event → Bool
joins_at_start (Join slot task cost period early) = slot == 0 && early == 0
joins_at_start event = false

-- nothing else happens, as far as is planned
abbrev pub is_synchronous : Plan → Bool
is_synchronous s = list_all (λ x. joins_at_start x.event) s.events

-- the tasks admitted in the slots that were stepped, by number
unfoldable pub admitted_in : Seen → List Joined
admitted_in seen = by_task (tasks_in seen.state.plan (run_of seen.state.plan seen.state.now))

-- the load after the events of slot 0
unfoldable pub first_load : Seen → ℕ
first_load seen = load_in seen.state.plan (run_of seen.state.plan seen.state.now) 0

-- whether the slots from `from` on and below `to` repeat, where the tasks are owed whole quanta in so many slots
unfoldable pub repetition_with : Seen → ℕ → ℕ → ℕ → Repetition
repetition_with seen span from to =
    if not (is_synchronous seen.state.plan) then OtherEvents
    else if seen.state.now == 0 then NoSlot
    else if nat_lt (seen.state.plan.settings.base * seen.state.plan.settings.processors) (first_load seen) then Overload
    else if from == 0 && nat_le span to then Every span
    else OutOfRange span

abbrev pub span_of : Seen → ℕ
span_of seen = least_span seen.state.plan.settings.base (admitted_in seen)

abbrev pub repetition_of : Seen → ℕ → ℕ → Repetition
repetition_of seen from to = repetition_with seen (span_of seen) from to

-- after how many slots it repeats, where that is known
abbrev pub known_span : Repetition → Option ℕ
known_span (Every span) = Some span
known_span repetition = None
