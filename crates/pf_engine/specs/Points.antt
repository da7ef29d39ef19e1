-- The points of a slot: some of its events were taken, and others follow.
use Rattle.std.specs.Prelude.{◌≡◌, ℕ, ◌+◌, ◌≤◌, false, List, length, sum_by, count_by, All}
use Rattle.pf_scenario.specs.System.{System, IsSystem}
use Rattle.pf_scenario.specs.Event.{slot_of}
use Rattle.pf_scenario.specs.Edit.{IsEvent}
use Rattle.pf_scenario.specs.declared.scenario.TheConstants.{MOST_EVENTS}
use Rattle.pf_scenario.specs.declared.event.Numbered.{Numbered}
use Rattle.pf_run.specs.Record.{Slot, runs}
use Rattle.pf_run.specs.Inside.{joins_of, has_left, hold_back_of}
use Rattle.pf_engine.specs.Fits.{Kept, kept_after}

-- the task is new: no event in force speaks of it, and it never ran
pub record IsNewTask (r : List Slot) (xs : List Numbered) (task : ℕ) : Type 0 where
  pub stays : has_left xs task ≡ false
  pub undelayed : (q : List Slot) (i : ℕ) → sum_by (λ x. hold_back_of q task i x.event) xs ≡ 0
  pub idle : count_by (runs task) r ≡ 0

-- what holds at each point of a run: the events in force are of slots up to now, and a task that didn't join is new
pub record IsPoint (r : List Slot) (xs : List Numbered) : Type 0 where
  pub past : All (λ x. slot_of x.event ≤ length r) xs
  pub fresh : (task : ℕ) → joins_of task xs ≡ 0 → IsNewTask r xs task

-- after the slots r, where the events xs are in force, these events of the slot can follow: each event is within its
-- limits, no task joins twice, and there are no more than a scenario has
pub record CanFollow (s : System) (r : List Slot) (xs events : List Numbered) : Type 0 where
  pub point : IsPoint r xs
  pub limits : All (λ x. IsEvent s x.event) xs
  pub limits_of_events : All (λ x. IsEvent s x.event) events
  pub slots : All (λ x. slot_of x.event ≡ length r) events
  pub once : (task : ℕ) → joins_of task xs + joins_of task events ≤ 1
  pub few : length xs + length events ≤ MOST_EVENTS

-- what is kept is what some slots and some events in force give, and these events can follow
pub record IsAt (e : Kept) (events : List Numbered) : Type 0 where
  pub settings : System
  pub run : List Slot
  pub standing : List Numbered
  pub is_system : IsSystem settings
  pub reached : length run ≤ settings.horizon
  pub follow : CanFollow settings run standing events
  pub keeps : e ≡ kept_after settings run standing
