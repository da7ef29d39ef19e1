-- Scenarios whose tasks all join in slot 0 and stay, and the span after which their runs repeat.
use Rattle.std.specs.Prelude.{◌≡◌, ℕ, ◌+◌, ◌*◌, ◌/◌, ◌%◌, ◌≤◌, ◌==◌, pos, List, All, length, find, filter_map}
use Rattle.std.specs.Option.{option_map_or}
use Rattle.pf_order.specs.declared.pick.Pick.{Pick}
use Rattle.pf_scenario.specs.Scenario.{Plan}
use Rattle.pf_scenario.specs.declared.event.Event.{Event}
use Rattle.pf_scenario.specs.declared.event.Event.TheVariants.{Join}
use Rattle.pf_run.specs.Record.{Slot}
use Rattle.pf_run.specs.Inside.{Joined, join_of}
use Rattle.pf_run.specs.Run.{events_in_force}
use Rattle.pf_tally.specs.Figures.{scaled_at}

-- the event is a join of slot 0, of a task that never runs early
abbrev pub JoinsAtStart : Event → Type 0
JoinsAtStart (Join slot task cost period early) = (slot ≡ 0) × (early ≡ 0)
JoinsAtStart event = ⊥

-- tasks join in slot 0, let in or not, and nothing else happens: none leaves, is delayed or runs early, and no processor
-- goes out of use
abbrev pub IsSynchronous : Plan → Type 0
IsSynchronous s = All (λ x. JoinsAtStart x.event) s.events

-- the tasks that were let in
abbrev pub tasks_in : Plan → List Slot → List Joined
tasks_in s r = filter_map (join_of s.settings.base) (events_in_force s r (length r))

-- a span: so many slots that each task is owed a whole number of quanta in them
pub record IsSpan (s : Plan) (r : List Slot) (span : ℕ) : Type 0 where
  pub some : 1 ≤ span
  pub whole : All (λ j. j.weight.cost * span % j.weight.period ≡ 0) (tasks_in s r)

-- what a task is owed in a span, in quanta
abbrev pub owed_in : ℕ → Joined → ℕ
owed_in span j = j.weight.cost * span / j.weight.period

-- the same of the task with this number
abbrev pub owed_to : Plan → List Slot → ℕ → ℕ → ℕ
owed_to s r span task = option_map_or (owed_in span) (find (λ j. j.task == task) (tasks_in s r)) 0

-- the pick a span later: of the same task, with as many more subtasks done as the task is owed in a span
abbrev pub later_pick : Plan → List Slot → ℕ → Pick → Pick
later_pick s r span p = record { task = p.task; sub = p.sub + owed_to s r span p.task }

-- after t slots every lag is 0: each task has received exactly its share of them
abbrev pub AreEven : Plan → List Slot → ℕ → Type 0
AreEven s r t = All (λ j. scaled_at r (events_in_force s r (length r)) j t ≡ pos 0) (tasks_in s r)
