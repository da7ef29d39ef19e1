-- Where events stand in the order in time.
use Rattle.std.specs.Prelude.{◌≡◌, ◌≢◌, ℕ, ◌<◌, ◌≤◌, List, All, IfSome}
use Rattle.std.specs.Option.{unwrap_or}
use Rattle.std.specs.declared.cmp.Ordering.{Ordering}
use Rattle.std.specs.declared.cmp.Ordering.TheVariants.{Equal}
use Rattle.std.specs.Ordering.{nat_cmp, ordering_then}
use Rattle.std.specs.declared.cmp.Ordering.{Ordering}
use Rattle.std.specs.declared.cmp.Ordering.TheVariants.{Equal}
use Rattle.std.specs.Ordering.{nat_cmp, ordering_then}
use Rattle.pf_weight.specs.declared.task.TheConstants.{LARGEST_TASK}
use Rattle.pf_scenario.specs.Sorted.{put_in_order}
use Rattle.pf_scenario.specs.System.{wide_horizon}
use Rattle.pf_scenario.specs.Event.{slot_of, kind_of, task_of}
use Rattle.pf_scenario.specs.declared.scenario.TheConstants.{LAST_NUMBER}
use Rattle.pf_scenario.specs.declared.event.Numbered.{Numbered}
use Rattle.pf_scenario.specs.declared.place.Place.{Place}

-- the place of an event
abbrev pub place_of : Numbered → Place
place_of x = record { slot = slot_of x.event; kind = kind_of x.event; task = unwrap_or (task_of x.event) 0; id = x.id }

-- the order of places
abbrev pub place_cmp : Place → Place → Ordering
place_cmp p q =
    ordering_then (nat_cmp p.slot q.slot) (ordering_then (nat_cmp p.kind q.kind) (ordering_then (nat_cmp p.task q.task) (nat_cmp p.id q.id)))

-- the place before all events of slot t
abbrev pub first_of : ℕ → Place
first_of t = record { slot = t; kind = 0; task = 0; id = 0 }

-- p ties with none of these places
abbrev pub IsApart : Place → List Place → Type 0
IsApart p = All (λ q. place_cmp p q ≢ Equal)

-- where the old places were `from` among others, the new ones are `to` among those
abbrev pub IsMove : Place → Place → List Place → List Place → Type 0
IsMove from to old new =
    (others : List Place) → IsApart from others → IsApart to others → old ≡ put_in_order place_cmp from others → new ≡ put_in_order place_cmp to others

-- the numbers of an event are such as places have
pub record IsPlaceable (x : Numbered) : Type 0 where
  pub slot : slot_of x.event < wide_horizon
  pub task : IfSome (task_of x.event) (λ task. task ≤ LARGEST_TASK)
  pub number : x.id ≤ LAST_NUMBER
