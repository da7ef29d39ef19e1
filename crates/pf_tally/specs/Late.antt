-- The misses of a task, by the slots in which it ran and by its delays.
use Rattle.std.specs.Prelude.{ℕ, ◌+◌, ◌-◌, ◌<◌, ◌≤◌, Bool, true, ◌&&◌, nat_le, cond, Some, List, All, map, filter, sum_by}
use Rattle.std.specs.List.{slice_get, range_with_len}
use Rattle.std.specs.Option.{option_map_or}
use Rattle.pf_weight.specs.Share.{IsShare}
use Rattle.pf_weight.specs.declared.task.TheConstants.{LARGEST_TASK}
use Rattle.pf_window.specs.Window.{release_of, deadline_of}
use Rattle.pf_scenario.specs.declared.settings.TheConstants.{WIDE_HORIZON}
use Rattle.pf_tally.specs.Held.{AreSuccessive, IsSmall}
use Rattle.pf_run.specs.Inside.{Joined}
use Rattle.pf_tally.specs.declared.held.Held.{Held}
use Rattle.pf_tally.specs.declared.miss.Miss.{Miss}

-- by how much a delay holds subtask i back
abbrev pub hold_of : ℕ → Held → ℕ
hold_of i h = cond (nat_le h.sub i) h.by 0

-- the shifted deadline of subtask i
abbrev pub due_at : Joined → List Held → ℕ → ℕ
due_at j held i = deadline_of j.weight i + (j.slot + sum_by (hold_of i) held)

-- the shifted release of subtask i
abbrev pub released_at : Joined → List Held → ℕ → ℕ
released_at j held i = release_of j.weight i + (j.slot + sum_by (hold_of i) held)

-- the miss of subtask i, due in the slot `due`, that runs in slot t
abbrev pub ran_late : ℕ → ℕ → ℕ → ℕ → Miss
ran_late task i due t = record { task = task; sub = i; deadline = due; ran = Some t }

-- subtask i is due by the last slot, and did not run before it was due
abbrev pub is_late : Joined → List ℕ → List Held → ℕ → ℕ → Bool
is_late j ran held last i =
    nat_le (due_at j held i) last && option_map_or (λ t. nat_le (due_at j held i) t) (slice_get ran (i - 1)) true

abbrev pub late_miss : Joined → List ℕ → List Held → ℕ → Miss
late_miss j ran held i =
    record { task = j.task; sub = i; deadline = due_at j held i; ran = slice_get ran (i - 1) }

-- the misses among the first n subtasks
abbrev pub late_misses : Joined → List ℕ → List Held → ℕ → ℕ → List Miss
late_misses j ran held last n = map (late_miss j ran held) (filter (is_late j ran held last) (range_with_len 1 n))

-- what is known of a task whose first n subtasks are looked at
pub record CanMiss (j : Joined) (held : List Held) (n : ℕ) : Type 0 where
  pub number : j.task ≤ LARGEST_TASK
  pub share : IsShare j.weight
  pub joined : j.slot < WIDE_HORIZON
  pub within : n ≤ WIDE_HORIZON
  pub chain : AreSuccessive 0 j.slot held
  pub small : All IsSmall held
