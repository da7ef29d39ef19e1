-- The subtasks that the overdue ones rest on, found by going back from the end, slot by slot. At each border between two
-- slots some subtasks are members, which run after it or are overdue, and the keys up to some bound count.
use Rattle.std.proofs.Common.{ℕ, zero, suc, ◌-◌, ◌==◌, Bool, ◌&&◌, ◌||◌, nat_le, if◌then◌else◌, count_by}
use Rattle.std.specs.List.{list_any}
use Rattle.pf_laws.specs.Ideal.Schedule.{Schedule, is_overdue}

-- which subtasks are members at a border, and which are within the bound
pub record Border : Type 0 where
  pub member : ℕ → ℕ → Bool
  pub bound : ℕ → ℕ → Bool

-- the task's next subtask runs in the slot v before the border b, and is within its bound
abbrev pub is_pick : Schedule → ℕ → Border → ℕ → Bool
is_pick s v b t = s.runs t v && b.bound t (s.done t v)

-- those fill the slot; where they don't, it is a hole
abbrev pub is_full : Schedule → ℕ → Border → Bool
is_full s v b = nat_le (s.count v) (count_by (λ t. is_pick s v b t) s.tasks)

-- the subtask after the next one is a member already, and was released by then
abbrev pub crosses : Schedule → ℕ → Border → ℕ → Bool
crosses s v b t = b.member t (suc (s.done t v)) && nat_le (s.release t (suc (s.done t v))) v

-- the task's next subtask becomes a member: of a full slot each pick, of a hole those whose successor waits there
abbrev pub is_chosen : Schedule → ℕ → Border → ℕ → Bool
is_chosen s v b t = is_pick s v b t && (is_full s v b || crosses s v b t)

-- the border before the slot v. A hole bounds the keys by those that are chosen there.
abbrev pub border_before : Schedule → ℕ → Border → Border
border_before s v b = record {
  member = λ t i. b.member t i || (is_chosen s v b t && (i == s.done t v));
  bound = λ t i.
      if is_full s v b then b.bound t i else list_any (λ u. is_chosen s v b u && s.no_later t i u (s.done u v)) s.tasks;
}

-- the border n slots before the end: there the members are the overdue subtasks, and the bound is the end
unfoldable pub border_back : Schedule → ℕ → Border
border_back s zero = record { member = is_overdue s; bound = λ t i. nat_le (s.deadline t i) s.end }
border_back s (suc n) = border_before s (s.end - suc n) (border_back s n)

-- the border before slot v
abbrev pub border_at : Schedule → ℕ → Border
border_at s v = border_back s (s.end - v)
