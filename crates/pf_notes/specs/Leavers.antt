-- The load by the joins and leaves in force.
use Rattle.std.specs.Prelude.{ℕ, ◌==◌, if◌then◌else◌, Option, None, Some, List, filter_map}
use Rattle.std.specs.List.{list_any}
use Rattle.std.specs.List.Sorted.{IsPermutation, IsNonDecreasing}
use Rattle.std.specs.Option.{option_map_or}
use Rattle.pf_scenario.specs.declared.event.Event.{Event}
use Rattle.pf_scenario.specs.declared.event.Event.TheVariants.{Leave}
use Rattle.pf_scenario.specs.declared.event.Numbered.{Numbered}
use Rattle.pf_run.specs.Inside.{Joined, joined_by}

-- the task that leaves by an event
abbrev pub leaver_of : Event → Option ℕ
leaver_of (Leave slot task) = Some task
leaver_of event = None

abbrev pub left_by : Numbered → Option ℕ
left_by x = leaver_of x.event

-- the tasks that leave by these events, rising
pub record AreLeavers (xs : List Numbered) (tasks : List ℕ) : Type 0 where
  pub same : IsPermutation (filter_map left_by xs) tasks
  pub rising : IsNonDecreasing tasks

-- the units of a task that is not among these
abbrev pub units_beside : List ℕ → Joined → ℕ
units_beside left j = if list_any (λ n. n == j.task) left then 0 else j.weight.units

-- the units that an event brings, where its task is not among those that leave
abbrev pub units_staying : ℕ → List ℕ → Event → ℕ
units_staying base left event = option_map_or (units_beside left) (joined_by base event) 0
