-- What a run tells of a task.
use Rattle.std.specs.Prelude.{◌≡◌, ℕ, ◌+◌, ◌-◌, min, ℤ, Bool, ◌||◌, nat_lt, if◌then◌else◌, Option, is_some, List, [], length, map, filter, filter_map, find}
use Rattle.std.specs.List.{range_with_len, slice_get}
use Rattle.std.specs.List.Sorted.{IsNonDecreasingBy, IsPartitionedBy}
use Rattle.std.specs.Option.{option_map, option_map_or, option_and_then}
use Rattle.pf_weight.specs.Share.{Share, is_heavy}
use Rattle.pf_window.specs.Window.{bit_of}
use Rattle.pf_window.specs.Group.{group_of}
use Rattle.pf_order.specs.declared.pick.Pick.{Pick}
use Rattle.pf_scenario.specs.Event.{slot_of, is_leave_of}
use Rattle.pf_scenario.specs.Scenario.{Plan}
use Rattle.pf_scenario.specs.declared.event.Numbered.{Numbered}
use Rattle.pf_run.specs.Record.{Slot}
use Rattle.pf_run.specs.Inside.{Joined, join_of, shift_of}
use Rattle.pf_run.specs.Run.{events_in_force}
use Rattle.pf_tally.specs.Clock.{Stop, release_at, stops_behind}
use Rattle.pf_tally.specs.Figures.{processors_in, scaled_at}
use Rattle.pf_tally.specs.Lags.{by_task}
use Rattle.pf_tally.specs.Misses.{due_of, ran_in, is_missed}
use Rattle.pf_courses.specs.Windows.{ran_below}
use Rattle.pf_courses.specs.declared.quantum.Quantum.{Quantum}
use Rattle.pf_courses.specs.declared.window.Window.{Window}

-- a task from its join to its end, which is the slot of its leave where it left: the windows that are drawn, the stops
-- of its clock, and its scaled lags after the first t slots, for each t from the join to the end
pub record Track : Type 0 where
  pub task : ℕ
  pub weight : Share
  pub joined : ℕ
  pub end : ℕ
  pub left : Bool
  pub windows : List Window
  pub stops : List Stop
  pub lags : List ℤ

-- later subtasks are released, due and run later, later stops begin and end later, and there is a lag at each slot
pub record IsTrack (track : Track) : Type 0 where
  pub releases : IsNonDecreasingBy (λ w. w.release) track.windows
  pub deadlines : IsNonDecreasingBy (λ w. w.deadline) track.windows
  pub quanta : (t : ℕ) → IsPartitionedBy (ran_below t) track.windows
  pub starts : IsNonDecreasingBy (λ s. s.start) track.stops
  pub ends : IsNonDecreasingBy (λ s. s.end) track.stops
  pub lags : length track.lags ≡ track.end + 1 - track.joined

-- the task's leave, if it left
abbrev pub leave_in : List Numbered → Joined → Option Numbered
leave_in xs j = find (λ x. is_leave_of j.task x.event) xs

-- the slot of its leave
abbrev pub leave_slot : List Numbered → Joined → Option ℕ
leave_slot xs j = option_map (λ x. slot_of x.event) (leave_in xs j)

-- the same, or n where it didn't leave
abbrev pub end_of : List Numbered → Joined → ℕ → ℕ
end_of xs j n = option_map_or (λ x. min (slot_of x.event) n) (leave_in xs j) n

-- where and on which processor subtask i ran: the i-th quantum of a task that ran on these processors
abbrev pub quantum_of : List Slot → List ℕ → Joined → ℕ → Option Quantum
quantum_of r on j i = option_and_then (λ t. option_map (λ p. record { slot = t; processor = p }) (slice_get on (i - 1))) (ran_in r j i)

-- its shifted group deadline; 0 of a light task
abbrev pub group_due_of : List Slot → List Numbered → Joined → ℕ → ℕ
group_due_of r xs j i = if is_heavy j.weight then group_of j.weight i + shift_of r xs j i else 0

-- its window, where the events xs are in force
abbrev pub window_of : List Slot → List ℕ → List Numbered → Joined → ℕ → Window
window_of r on xs j i = record {
  sub = i;
  release = release_at r xs j i;
  deadline = due_of r xs j i;
  bit = bit_of j.weight i;
  group = group_due_of r xs j i;
  late = is_missed r xs j i;
  ran = quantum_of r on j i;
}

-- it is drawn: it ran, or was released before the task's end
abbrev pub is_drawn : ℕ → Window → Bool
is_drawn end w = is_some w.ran || nat_lt w.release end

-- no subtask is released before its number less one, so those up to the length are enough
abbrev pub windows_of : List Slot → List ℕ → List Numbered → Joined → List Window
windows_of r on xs j =
    filter (is_drawn (end_of xs j (length r))) (map (window_of r on xs j) (range_with_len 1 (length r)))

-- the lags after the first t slots, for each t from the join to the end
abbrev pub lags_upto : List Slot → List Numbered → Joined → ℕ → List ℤ
lags_upto r xs j end = map (scaled_at r xs j) (range_with_len j.slot (end + 1 - j.slot))

-- the course of a task that ran on these processors, after the record r, where the events xs are in force
abbrev pub track_of : List Slot → List ℕ → List Numbered → Joined → Track
track_of r on xs j = record {
  task = j.task;
  weight = j.weight;
  joined = j.slot;
  end = end_of xs j (length r);
  left = is_some (leave_in xs j);
  windows = windows_of r on xs j;
  stops = stops_behind r j [] xs;
  lags = lags_upto r xs j (end_of xs j (length r));
}

-- the courses of the tasks admitted so far, by task number, after the record r of the scenario and its rows
unfoldable pub tracks_of : Plan → List Slot → List (List (Option Pick)) → List Track
tracks_of s r rows =
    map (λ j. track_of r (processors_in rows j.task) (events_in_force s r (length r)) j)
    (by_task (filter_map (join_of s.settings.base) (events_in_force s r (length r))))
