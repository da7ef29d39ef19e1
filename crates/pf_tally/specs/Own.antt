-- The events of one task.
use Rattle.std.specs.Prelude.{◌≡◌, ℕ, ◌==◌, Bool, false, List, filter}
use Rattle.std.specs.Option.{option_map_or}
use Rattle.pf_scenario.specs.Event.{task_of}
use Rattle.pf_scenario.specs.declared.event.Event.{Event}
use Rattle.pf_scenario.specs.declared.event.Numbered.{Numbered}
use Rattle.pf_collections.specs.Table.Lists.{noted_of}

-- the event is of the task
abbrev pub is_own : ℕ → Event → Bool
is_own task event = option_map_or (λ owner. owner == task) (task_of event) false

-- the task's own events among these, in their order
abbrev pub events_of_task : ℕ → List Numbered → List Numbered
events_of_task task xs = filter (λ x. is_own task x.event) xs

-- of each task the table notes the task's own events
pub record AreDiaries (xs : List Numbered) (table : List (List Numbered)) : Type 0 where
  pub each : (task : ℕ) → noted_of table task ≡ events_of_task task xs
