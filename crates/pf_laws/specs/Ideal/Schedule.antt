-- A schedule of quanta up to a slot, as the law that no window is missed looks at it. It knows of no weights, bits or
-- group deadlines: tasks ask for processor time at constant rates, each quantum has a window, and an order says whose
-- quantum goes first. Tasks come and go, and may be held back between one subtask and the next.
-- Here a task's subtasks are numbered from 0: subtask i is the one that is next where i have run.
use Rattle.std.specs.Prelude.{◌≡◌, ℕ, zero, suc, ◌+◌, ◌-◌, ◌*◌, ◌<◌, ◌≤◌, ◌==◌, Bool, true, false, ◌&&◌, nat_le, if◌then◌else◌, List, sum_by, count_by}
use Rattle.std.specs.List.{list_any, range_with_len}

pub record Schedule : Type 0 where
  -- the tasks, by number; the units that make a quantum, and how many of them a task asks for in each slot
  pub tasks : List ℕ
  pub quantum : ℕ
  pub units : ℕ → ℕ
  -- of a task's subtask i: where its quantum begins in the units that the task asks for from slot 0 on; by how many
  -- slots the next subtask is held back; the first slot of its window, and the first one after it
  pub offset : ℕ → ℕ → ℕ
  pub gap : ℕ → ℕ → ℕ
  pub release : ℕ → ℕ → ℕ
  pub deadline : ℕ → ℕ → ℕ
  -- the order: subtask i of task t comes no later than subtask j of task u
  pub no_later : ℕ → ℕ → ℕ → ℕ → Bool
  -- of a task and a slot: it runs there, how many of its subtasks ran in slots below, it is inside
  pub runs : ℕ → ℕ → Bool
  pub done : ℕ → ℕ → ℕ
  pub inside : ℕ → ℕ → Bool
  -- how many processors are in use in a slot
  pub count : ℕ → ℕ
  -- the slot up to which it goes, and which tasks stay up to there, once they are inside
  pub end : ℕ
  pub stays : ℕ → Bool

-- the task is one of these
abbrev pub is_task : Schedule → ℕ → Bool
is_task s t = list_any (λ u. t == u) s.tasks

-- subtask i reaches n slots past its deadline: at the task's rate, its quantum and the next n aren't over by then. So if
-- it runs in the last slot of its window, then so must each of the next n, unless the task is held back.
abbrev pub Reaches : Schedule → ℕ → ℕ → ℕ → Type 0
Reaches s t i n = s.offset t i + (n + 1) * s.quantum < (s.deadline t i + n) * s.units t

-- Windows: a task asks for at most a quantum in each slot. Its quanta follow one another, held back or not, and each has
-- the window from the slot in which it begins to that in which it ends.
pub record HasWindows (s : Schedule) : Type 0 where
  pub some : (t : ℕ) → 1 ≤ s.units t
  pub within : (t : ℕ) → s.units t ≤ s.quantum
  pub next : (t i : ℕ) → s.offset t (suc i) ≡ s.offset t i + s.quantum + s.units t * s.gap t i
  pub released : (t i : ℕ) → s.release t i * s.units t ≤ s.offset t i
  pub begins : (t i : ℕ) → s.offset t i < (s.release t i + 1) * s.units t
  pub ends : (t i : ℕ) → s.offset t i + s.quantum ≤ s.deadline t i * s.units t
  pub due : (t i : ℕ) → s.deadline t i * s.units t < s.offset t i + s.quantum + s.units t

-- Order: by the earlier deadline, and of one deadline by the longer reach
pub record RanksByReach (s : Schedule) : Type 0 where
  pub itself : (t i : ℕ) → s.no_later t i t i ≡ true
  pub transitive : (t i u j w k : ℕ) → s.no_later t i u j ≡ true → s.no_later u j w k ≡ true →
      s.no_later t i w k ≡ true
  pub earlier : (t i u j : ℕ) → s.deadline t i < s.deadline u j → s.no_later t i u j ≡ true
  pub deadline : (t i u j : ℕ) → s.no_later t i u j ≡ true → s.deadline t i ≤ s.deadline u j
  pub reach : (t i u j n : ℕ) → s.no_later t i u j ≡ true → s.deadline t i ≡ s.deadline u j → Reaches s u j n →
      Reaches s t i n

-- Choice: only tasks inside run; and where a released next subtask of a task inside does not run, as many run as
-- processors are in use that come no later in the order
pub record RunsInOrder (s : Schedule) : Type 0 where
  pub none : (t : ℕ) → s.done t 0 ≡ 0
  pub counted : (t v : ℕ) → s.done t (suc v) ≡ s.done t v + (if s.runs t v then 1 else 0)
  pub known : (t v : ℕ) → v < s.end → s.runs t v ≡ true → is_task s t ≡ true
  pub inside : (t v : ℕ) → v < s.end → s.runs t v ≡ true → s.inside t v ≡ true
  pub first : (t v : ℕ) → v < s.end → s.inside t v ≡ true → s.release t (s.done t v) ≤ v → s.runs t v ≡ false →
      s.count v ≤ count_by (λ u. s.runs u v && s.no_later u (s.done u v) t (s.done t v)) s.tasks

-- Presence: a task is inside from the release of each subtask that runs, through its window and until it runs, and as far
-- as one that ran reaches past its deadline: this is what the rule of leaving is for. One that stays is inside from its
-- first release to the end.
pub record StaysInside (s : Schedule) : Type 0 where
  pub through : (t i v : ℕ) → v < s.end → s.release t i ≤ v → v < s.deadline t i → i < s.done t s.end →
      s.inside t v ≡ true
  pub until : (t i v u : ℕ) → s.release t i ≤ v → v ≤ u → u < s.end → s.runs t u ≡ true → s.inside t v ≡ true
  pub past : (t i v n : ℕ) → v < s.end → i < s.done t v → v ≡ s.deadline t i + n → Reaches s t i n →
      s.inside t v ≡ true
  pub stays : (t i v : ℕ) → v < s.end → s.release t i ≤ v → s.stays t ≡ true → s.inside t v ≡ true

-- the laws that the theorem rests on
pub record IsByReach (s : Schedule) : Type 0 where
  pub windows : HasWindows s
  pub order : RanksByReach s
  pub choice : RunsInOrder s
  pub presence : StaysInside s

-- subtask i is overdue at the end: it is due by then, it has not run, and its task stays
abbrev pub is_overdue : Schedule → ℕ → ℕ → Bool
is_overdue s t i = s.stays t && nat_le (s.deadline t i) s.end && nat_le (s.done t s.end) i

-- how many of the task's subtasks are: none is due before its number
abbrev pub overdue_of : Schedule → ℕ → ℕ
overdue_of s t = count_by (is_overdue s t) (range_with_len 0 s.end)

-- what the tasks inside ask of a slot
abbrev pub load : Schedule → ℕ → ℕ
load s v = sum_by (λ t. if s.inside t v then s.units t else 0) s.tasks

-- how many units more than the processors in use have, in each slot, were asked of the slots below v
unfoldable pub overload : Schedule → ℕ → ℕ
overload s zero = 0
overload s (suc v) = overload s v + (load s v - s.quantum * s.count v)

-- no slot is asked for more than it has
abbrev pub IsWithin : Schedule → Type 0
IsWithin s = (v : ℕ) → v < s.end → load s v ≤ s.quantum * s.count v
