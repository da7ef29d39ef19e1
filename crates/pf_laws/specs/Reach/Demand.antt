-- What tasks ask for, and what they get, as a schedule by PD2.
use Rattle.std.specs.Prelude.{◌≡◌, ℕ, suc, ◌+◌, ◌-◌, ◌*◌, ◌≤◌, Bool, not, List}
use Rattle.pf_weight.specs.Share.{Share, IsShare}
use Rattle.pf_window.specs.Window.{release_of, deadline_of}
use Rattle.pf_order.specs.Priority.{Priority, precedes}
use Rattle.pf_order.specs.KeyOf.{key_of}
use Rattle.pf_laws.specs.Ideal.Schedule.{Schedule}

-- tasks by number, the weight of each over a base, and the shift of each task's subtasks, numbered from 1
pub record Demand : Type 0 where
  pub tasks : List ℕ
  pub weight : ℕ → Share
  pub shift : ℕ → ℕ → ℕ
  pub base : ℕ

-- the weights are shares of the base, and no later subtask is shifted less than an earlier one
pub record IsDemand (d : Demand) : Type 0 where
  pub some : 1 ≤ d.base
  pub shares : (t : ℕ) → IsShare (d.weight t)
  pub exact : (t : ℕ) → (d.weight t).units * (d.weight t).period ≡ (d.weight t).cost * d.base
  pub rise : (t i : ℕ) → d.shift t i ≤ d.shift t (suc i)

-- of a task and a slot: it runs there, how many of its subtasks ran below, it is inside; how many processors are in use
-- in a slot; the slot up to which the schedule goes, and which tasks stay up to there, once they are inside
pub record Service : Type 0 where
  pub runs : ℕ → ℕ → Bool
  pub done : ℕ → ℕ → ℕ
  pub inside : ℕ → ℕ → Bool
  pub count : ℕ → ℕ
  pub end : ℕ
  pub stays : ℕ → Bool

-- the key of a task's subtask, numbered from 0
abbrev pub key_in : Demand → ℕ → ℕ → Priority
key_in d t i = key_of (d.weight t) (d.shift t (suc i)) (suc i) t

-- the schedule that serves this demand so, in the order of PD2
abbrev pub schedule_of : Demand → Service → Schedule
schedule_of d g = record {
  tasks = d.tasks;
  quantum = d.base;
  units = λ t. (d.weight t).units;
  offset = λ t i. d.shift t (suc i) * (d.weight t).units + i * d.base;
  gap = λ t i. d.shift t (suc (suc i)) - d.shift t (suc i);
  release = λ t i. release_of (d.weight t) (suc i) + d.shift t (suc i);
  deadline = λ t i. deadline_of (d.weight t) (suc i) + d.shift t (suc i);
  no_later = λ t i u j. not (precedes (key_in d u j) (key_in d t i));
  runs = g.runs;
  done = g.done;
  inside = g.inside;
  count = g.count;
  end = g.end;
  stays = g.stays;
}
