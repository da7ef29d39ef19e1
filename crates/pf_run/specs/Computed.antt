-- The run of a scenario, computed: what the worked examples are tried on, and what higher definitions speak of.
use Rattle.std.specs.Prelude.{ℕ, zero, suc, Option, None, Some, List, [], ◌∷◌, ◌++◌, length, map}
use Rattle.pf_place.specs.Priority.{Priority}
use Rattle.pf_place.specs.First.{first_keys}
use Rattle.pf_scenario.specs.System.{System}
use Rattle.pf_scenario.specs.Scenario.{Plan, events_of}
use Rattle.pf_scenario.specs.declared.event.Numbered.{Numbered}
use Rattle.pf_admit.specs.declared.denial.Denial.{Denial}
use Rattle.pf_run.specs.declared.denied.Denied.{Denied}
use Rattle.pf_run.specs.Record.{Slot}
use Rattle.pf_run.specs.Inside.{ready, count_of}
use Rattle.pf_run.specs.Denials.{denial_of, denied_for}
use Rattle.pf_run.specs.Run.{pick_of_key}

-- the events in force after one more: it joins them, unless it is denied
abbrev pub with_event : List Numbered → Numbered → Option Denial → List Numbered
with_event xs x None = xs ++ x ∷ []
with_event xs x (Some denial) = xs

-- the events in force after these events of the slot after r, where xs are in force before them
abbrev pub after_events : System → List Slot → List Numbered → List Numbered → List Numbered
after_events s r xs [] = xs
after_events s r xs (y ∷ ys) = after_events s r (with_event xs y (denial_of s r xs y.event)) ys

-- those of them that are denied
abbrev pub denials_among : System → List Slot → List Numbered → List Numbered → List Denied
denials_among s r xs [] = []
denials_among s r xs (y ∷ ys) =
    denied_for y (length r) (denial_of s r xs y.event)
    ++ denials_among s r (with_event xs y (denial_of s r xs y.event)) ys

-- the picks of the slot after r, where the events xs are in force
abbrev pub picks_of : System → List Slot → List Numbered → List Priority
picks_of s r xs = first_keys (count_of s.processors xs) (ready s.base r xs)

-- a run so far, and the events in force after it
pub record RunCourse : Type 0 where
  pub slots : List Slot
  pub standing : List Numbered

-- one slot more: of these events, and with `after` in force after them
abbrev pub with_slot : System → RunCourse → List Numbered → List Numbered → RunCourse
with_slot s c events after = record {
  slots = c.slots ++ record {
    picks = map pick_of_key (picks_of s c.slots after);
    denials = denials_among s c.slots c.standing events;
  } ∷ [];
  standing = after;
}

abbrev pub next_course : Plan → RunCourse → List Numbered → RunCourse
next_course s c events = with_slot s.settings c events (after_events s.settings c.slots c.standing events)

unfoldable pub course_of : Plan → ℕ → RunCourse
course_of s zero = record { slots = []; standing = [] }
course_of s (suc n) = next_course s (course_of s n) (events_of s n)

-- the run of the scenario over n slots
abbrev pub run_of : Plan → ℕ → List Slot
run_of s n = (course_of s n).slots
