-- The tasks inside at a point of the run order, and what is known of them there. A point is given by the events in
-- force before it, in run order.
use Rattle.std.specs.Prelude.{ℕ, ◌+◌, ◌-◌, ◌==◌, Bool, ◌&&◌, not, nat_le, if◌then◌else◌, max, Option, Some, None, List, filter, filter_map, find, fold, length, sum_by, count_by}
use Rattle.std.specs.List.{list_any}
use Rattle.std.specs.Option.{option_map}
use Rattle.pf_scenario.specs.Share.{Share, share_of}
use Rattle.pf_admit.specs.Window.{release_of}
use Rattle.pf_place.specs.Priority.{Priority}
use Rattle.pf_place.specs.KeyOf.{key_of}
pub use Rattle.pf_scenario.specs.Event.{is_join_of, is_leave_of}
use Rattle.pf_scenario.specs.declared.event.Event.{Event}
use Rattle.pf_scenario.specs.declared.event.Event.TheVariants.{Join, Delay, Limit}
use Rattle.pf_scenario.specs.declared.event.Numbered.{Numbered}
use Rattle.pf_admit.specs.declared.member.Member.{Member}
use Rattle.pf_run.specs.Record.{Slot, done, next_sub}

-- a task as its join brings it: its number, its join slot, its weight, and how early its subtasks may run
pub record Joined : Type 0 where
  pub task : ℕ
  pub slot : ℕ
  pub weight : Share
  pub early : ℕ

-- the task that an event brings
abbrev pub joined_by : ℕ → Event → Option Joined
joined_by base (Join slot task cost period early) =
    Some (record { task = task; slot = slot; weight = share_of base cost period; early = early })
joined_by base event = None

abbrev pub join_of : ℕ → Numbered → Option Joined
join_of base x = joined_by base x.event

-- how many of these events join the task
abbrev pub joins_of : ℕ → List Numbered → ℕ
joins_of task xs = count_by (λ x. is_join_of task x.event) xs

-- the task left
abbrev pub has_left : List Numbered → ℕ → Bool
has_left xs task = list_any (λ x. is_leave_of task x.event) xs

-- the tasks inside: joined, and with no leave
unfoldable pub inside : ℕ → List Numbered → List Joined
inside base xs = filter (λ j. not (has_left xs j.task)) (filter_map (join_of base) xs)

-- the load: the sum of their units
unfoldable pub load_of : ℕ → List Numbered → ℕ
load_of base xs = sum_by (λ j. j.weight.units) (inside base xs)

-- how many processors are in use: the count of the last limit, or m
abbrev pub count_after : ℕ → Event → ℕ
count_after count (Limit slot count') = count'
count_after count event = count

unfoldable pub count_of : ℕ → List Numbered → ℕ
count_of m xs = fold (λ count x. count_after count x.event) m xs

-- by how much an event holds back subtask i of the task: a delay does that which came before i's turn was over
abbrev pub hold_back_of : List Slot → ℕ → ℕ → Event → ℕ
hold_back_of r task i (Delay slot task' by) = if task' == task && nat_le (done r task slot + 1) i then by else 0
hold_back_of r task i event = 0

-- the shift of subtask i: the join slot, and the delays that count for i
unfoldable pub shift_of : List Slot → List Numbered → Joined → ℕ → ℕ
shift_of r xs j i = j.slot + sum_by (λ x. hold_back_of r j.task i x.event) xs

-- the task after the slots r, as admission looks at it
unfoldable pub member_of : List Slot → List Numbered → Joined → Member
member_of r xs j = record {
  weight = j.weight;
  joined = j.slot;
  early = j.early;
  done = done r j.task (length r);
  shift = shift_of r xs j (next_sub r j.task);
  last = shift_of r xs j (done r j.task (length r));
}

-- the member with this task number, if it is inside
abbrev pub member_at : ℕ → List Slot → List Numbered → ℕ → Option Member
member_at base r xs task = option_map (member_of r xs) (find (λ j. j.task == task) (inside base xs))

-- the first slot in which a member's next subtask may run
abbrev pub eligible_from : Member → ℕ
eligible_from m = max m.joined (release_of m.weight (m.done + 1) + m.shift - m.early)

-- the key of a member's next subtask
abbrev pub next_key : ℕ → Member → Priority
next_key task m = key_of m.weight m.shift (m.done + 1) task

-- that key, where the subtask is eligible in slot t
abbrev pub ready_key : ℕ → ℕ → Member → Option Priority
ready_key t task m = if nat_le (eligible_from m) t then Some (next_key task m) else None

-- the eligible subtasks of the slot after r: of each task inside the next one, where it may run
unfoldable pub ready : ℕ → List Slot → List Numbered → List Priority
ready base r xs = filter_map (λ j. ready_key (length r) j.task (member_of r xs j)) (inside base xs)
