-- Denied events, by the task of the event.
use Rattle.std.specs.Prelude.{◌≡◌, ℕ, ◌<◌, ◌==◌, Option, List, filter, find}
use Rattle.std.specs.List.{AllPairs}
use Rattle.std.specs.Option.{option_and_then}
use Rattle.pf_vocabulary.specs.declared.names.named.Named.{Named}
use Rattle.pf_scenario.specs.Event.{task_of}
use Rattle.pf_scenario.specs.declared.event.Numbered.{Numbered}
use Rattle.pf_run.specs.declared.denied.Denied.{Denied}
use Rattle.pf_collections.specs.Table.Lists.{noted_of}
use Rattle.pf_tally.specs.Own.{events_of_task}
use Rattle.pf_courses.specs.Listing.{Listing}
use Rattle.pf_picture.specs.Drawing.{Drawing, asked_of, drawing_asked, is_denial_of}

-- the numbers of these events rise
abbrev pub HaveRisingNumbers : List Numbered → Type 0
HaveRisingNumbers events = AllPairs (λ x y. x.id < y.id) events

-- the task of the event of this number, where one of these events has it and is of a task
abbrev pub owner_of : List Numbered → ℕ → Option ℕ
owner_of events id = option_and_then (λ x. task_of x.event) (find (λ x. x.id == id) events)

-- of each task the table notes those of the denials that are of its own events, in their order
pub record AreDenialsByTask (events : List Numbered) (denials : List Denied) (table : List (List Denied)) : Type 0 where
  pub each : (task : ℕ) → noted_of table task ≡ filter (is_denial_of (events_of_task task events)) denials

-- a listed task with these events of its own, of which these are denied
abbrev pub drawing_with : List Named → List Numbered → List Denied → ℕ → Listing → Drawing
drawing_with names own denied n l = drawing_asked names (asked_of own n l.task) denied l
