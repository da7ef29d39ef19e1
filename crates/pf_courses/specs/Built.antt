-- The course of a task, by the slots in which it ran, its processors and its delays; the listed tasks, by their courses
-- and their own events; and how many processors are in use, by the denials.
use Rattle.std.specs.Prelude.{ℕ, ◌+◌, ◌-◌, ◌*◌, ◌==◌, ℤ, pos, ◌-ℤ◌, Bool, not, nat_lt, if◌then◌else◌, Option, List, map, filter, find, sum_by, count_by}
use Rattle.std.specs.List.{list_any, range_with_len, slice_get}
use Rattle.std.specs.Option.{option_map, option_and_then}
use Rattle.pf_weight.specs.Share.{is_heavy}
use Rattle.pf_window.specs.Window.{bit_of}
use Rattle.pf_window.specs.Group.{group_of}
use Rattle.pf_scenario.specs.Event.{slot_of}
use Rattle.pf_scenario.specs.Scenario.{Plan, past}
use Rattle.pf_scenario.specs.declared.event.Numbered.{Numbered}
use Rattle.pf_run.specs.declared.denied.Denied.{Denied}
use Rattle.pf_run.specs.Record.{in_force}
use Rattle.pf_run.specs.Inside.{Joined, count_of}
use Rattle.pf_collections.specs.Table.Lists.{noted_of}
use Rattle.pf_tally.specs.Clock.{Stop, is_stopped}
use Rattle.pf_tally.specs.Late.{hold_of, due_at, released_at, is_late}
use Rattle.pf_tally.specs.declared.held.Held.{Held}
use Rattle.pf_courses.specs.Course.{Track, is_drawn}
use Rattle.pf_courses.specs.Listing.{Listing}
use Rattle.pf_courses.specs.declared.quantum.Quantum.{Quantum}
use Rattle.pf_courses.specs.declared.window.Window.{Window}

-- the shift of subtask i
abbrev pub shift_by : Joined → List Held → ℕ → ℕ
shift_by j held i = j.slot + sum_by (hold_of i) held

-- a quantum of this slot on this processor
abbrev pub quantum_with : Option ℕ → Option ℕ → Option Quantum
quantum_with slot processor = option_and_then (λ t. option_map (λ p. record { slot = t; processor = p }) processor) slot

abbrev pub window_by : Joined → List ℕ → List ℕ → List Held → ℕ → ℕ → Window
window_by j ran on held end i = record {
  sub = i;
  release = released_at j held i;
  deadline = due_at j held i;
  bit = bit_of j.weight i;
  group = if is_heavy j.weight then group_of j.weight i + shift_by j held i else 0;
  late = is_late j ran held end i;
  ran = quantum_with (slice_get ran (i - 1)) (slice_get on (i - 1));
}

-- those of the first n subtasks that are drawn
abbrev pub windows_by : Joined → List ℕ → List ℕ → List Held → ℕ → ℕ → List Window
windows_by j ran on held end n = filter (is_drawn end) (map (window_by j ran on held end) (range_with_len 1 n))

-- the clock before slot t
abbrev pub clock_by : Joined → List Stop → ℕ → ℕ
clock_by j stops t = count_by (λ u. not (is_stopped stops u)) (range_with_len j.slot (t - j.slot))

-- the lag after the first t slots, times the period
abbrev pub lag_with : Joined → List ℕ → List Stop → ℕ → ℤ
lag_with j ran stops t = pos (j.weight.cost * clock_by j stops t) -ℤ pos (j.weight.period * count_by (λ q. nat_lt q t) ran)

-- how many processors are in use in slot t, where these are the denials
abbrev pub count_by_denials : Plan → List Denied → ℕ → ℕ
count_by_denials s denials t = count_of s.settings.processors (in_force denials (past s (t + 1)))

-- a listed task, where `own` has the own events of each, and `denied` the numbers of the denied ones
abbrev pub listing_by : List Track → List (List Numbered) → List ℕ → ℕ → Listing
listing_by tracks own denied task = record {
  task = task;
  track = find (λ track. track.task == task) tracks;
  denied = map (λ x. slot_of x.event) (filter (λ x. list_any (λ n. n == x.id) denied) (noted_of own task));
}

abbrev pub is_listed_by : List (List Numbered) → ℕ → ℕ → Bool
is_listed_by own n task = list_any (λ x. nat_lt (slot_of x.event) n) (noted_of own task)

-- the listed tasks of the numbers 1 to k
abbrev pub listings_by : List Track → List (List Numbered) → List ℕ → ℕ → ℕ → List Listing
listings_by tracks own denied n k = map (listing_by tracks own denied) (filter (is_listed_by own n) (range_with_len 1 k))
