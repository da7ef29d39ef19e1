-- Who may run in a slot of a run, and in which order.
use Rattle.std.specs.Prelude.{ℕ, suc, ◌+◌, ◌-◌, Bool, ◌==◌, nat_le, max, if◌then◌else◌, Option, None, Some, List, map, filter, sum_by}
use Rattle.std.specs.declared.cmp.Ordering.{Ordering}
use Rattle.std.specs.Ordering.{on}
use Rattle.pf_weight.specs.Share.{is_heavy}
use Rattle.pf_window.specs.Window.{release_of, deadline_of, bit_of}
use Rattle.pf_window.specs.Group.{group_of}
use Rattle.pf_order.specs.Priority.{Priority, priority_cmp}
use Rattle.pf_scenario.specs.Event.{slot_of}
use Rattle.pf_scenario.specs.Scenario.{Plan}
use Rattle.pf_scenario.specs.Sorted.{sorted_by}
use Rattle.pf_scenario.specs.declared.event.Numbered.{Numbered}
use Rattle.pf_run.specs.Record.{Slot}
use Rattle.pf_run.specs.Inside.{Joined, has_left, inside, shift_of}
use Rattle.pf_run.specs.Run.{events_in_force}
use Rattle.pf_tally.specs.Clock.{next_at}
use Rattle.pf_tally.specs.Held.{next_in, held_from}
use Rattle.pf_tally.specs.Late.{hold_of}
use Rattle.pf_why.specs.declared.subtask.Subtask.{Subtask}

-- subtask i of a task, where its windows are shifted by so many slots
abbrev pub subtask_of : Joined → ℕ → ℕ → Subtask
subtask_of j i shift = record {
  task = j.task;
  sub = i;
  release = release_of j.weight i + shift;
  deadline = deadline_of j.weight i + shift;
  bit = bit_of j.weight i;
  group = (if is_heavy j.weight then group_of j.weight i + shift else 0);
  first = max j.slot (release_of j.weight i + shift - j.early);
}

-- the events in force at the choice of slot t, after those of the slot
abbrev pub standing_in : Plan → List Slot → ℕ → List Numbered
standing_in s r t = events_in_force s r (suc t)

-- the next subtask of a task at the choice of slot t, where the events xs are in force
abbrev pub next_of : List Slot → List Numbered → ℕ → Joined → Subtask
next_of r xs t j = subtask_of j (next_at r j t) (shift_of r xs j (next_at r j t))

-- it may run in slot t
abbrev pub may_run : ℕ → Subtask → Bool
may_run t x = nat_le x.first t

-- the subtasks that may run in slot t: of each task inside the next one, in the order of the joins
abbrev pub candidates_in : Plan → List Slot → ℕ → List Subtask
candidates_in s r t =
    filter (may_run t) (map (next_of r (standing_in s r t) t) (inside s.settings.base (standing_in s r t)))

-- what the order of PD2 looks at: the group deadline counts only beside the bit 1
abbrev pub priority_of : Subtask → Priority
priority_of x = record {
  deadline = x.deadline;
  bit = x.bit;
  group = (if x.bit == 1 then x.group else 0);
  task = x.task;
  sub = x.sub;
}

abbrev pub rank_cmp : Subtask → Subtask → Ordering
rank_cmp = on priority_of priority_cmp

-- the ranking of slot t: the subtasks that may run, in the order of PD2
unfoldable pub ranking_in : Plan → List Slot → ℕ → List Subtask
ranking_in s r t = sorted_by rank_cmp (candidates_in s r t)

-- the events of the slots up to t
abbrev pub is_until : ℕ → Numbered → Bool
is_until t x = nat_le (slot_of x.event) t

-- the same by what is told of a task: the slots in which it ran, and its own events in force
abbrev pub next_by : Joined → List ℕ → List Numbered → ℕ → Subtask
next_by j ran xs t =
    subtask_of j (next_in ran t) (j.slot + sum_by (hold_of (next_in ran t)) (held_from (next_in ran) j j.slot xs))

abbrev pub candidate_by : Joined → List ℕ → List Numbered → ℕ → Option Subtask
candidate_by j ran xs t =
    if has_left xs j.task then None else if may_run t (next_by j ran xs t) then Some (next_by j ran xs t) else None
