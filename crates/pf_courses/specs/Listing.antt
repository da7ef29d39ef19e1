-- Which tasks are listed, and what is told of each.
use Rattle.std.specs.Prelude.{ℕ, ◌+◌, Bool, ◌&&◌, ◌==◌, nat_lt, Option, List, length, map, filter, find}
use Rattle.std.specs.List.{list_any, range_with_len}
use Rattle.pf_weight.specs.declared.task.TheConstants.{LARGEST_TASK}
use Rattle.pf_order.specs.declared.pick.Pick.{Pick}
use Rattle.pf_scenario.specs.Event.{slot_of}
use Rattle.pf_scenario.specs.Scenario.{Plan}
use Rattle.pf_scenario.specs.declared.event.Numbered.{Numbered}
use Rattle.pf_run.specs.declared.denied.Denied.{Denied}
use Rattle.pf_run.specs.Record.{is_denied}
use Rattle.pf_run.specs.Inside.{count_of}
use Rattle.pf_run.specs.Run.{events_in_force}
use Rattle.pf_run.specs.Computed.{run_of}
use Rattle.pf_tally.specs.Own.{is_own}
use Rattle.pf_courses.specs.Course.{Track, tracks_of}

-- a listed task: its course, if it was admitted, and the slots of its denied events
pub record Listing : Type 0 where
  pub task : ℕ
  pub track : Option Track
  pub denied : List ℕ

-- a join, a leave or a delay of the task is held with a slot below n
abbrev pub is_listed : Plan → ℕ → ℕ → Bool
is_listed s n task = list_any (λ x. is_own task x.event && nat_lt (slot_of x.event) n) s.events

abbrev pub listing_of : List Numbered → List Denied → List Track → ℕ → Listing
listing_of events denials tracks task = record {
  task = task;
  track = find (λ track. track.task == task) tracks;
  denied = map (λ x. slot_of x.event) (filter (λ x. is_own task x.event && is_denied denials x) events);
}

-- the listed tasks, by number, after n slots of the scenario with these rows and denials
unfoldable pub listings_of : Plan → ℕ → List (List (Option Pick)) → List Denied → List Listing
listings_of s n rows denials =
    map (listing_of s.events denials (tracks_of s (run_of s n) rows)) (filter (is_listed s n) (range_with_len 1 LARGEST_TASK))

-- how many processors are in use in slot t of the first n
abbrev pub count_in : Plan → ℕ → ℕ → ℕ
count_in s n t = count_of s.settings.processors (events_in_force s (run_of s n) (t + 1))

-- that of each slot that has a row
abbrev pub counts_of : Plan → ℕ → List (List (Option Pick)) → List ℕ
counts_of s n rows = map (count_in s n) (range_with_len 0 (length rows))
