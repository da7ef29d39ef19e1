-- A walk over a run's slots: how far each task has come, which delays it met, and whose quanta came too late.
use Rattle.std.specs.Prelude.{◌≡◌, ◌≢◌, ℕ, ◌+◌, ◌≤◌, Bool, ◌==◌, nat_le, cond, Option, Some, None, List, [], ◌∷◌, ◌++◌, length, take, sum_by, All, AllPairs}
use Rattle.pf_weight.specs.Share.{Share}
use Rattle.pf_weight.specs.declared.task.TheConstants.{LARGEST_TASK}
use Rattle.pf_window.specs.Window.{deadline_of}
use Rattle.pf_order.specs.declared.pick.Pick.{Pick}
use Rattle.pf_scenario.specs.Event.{slot_of}
use Rattle.pf_scenario.specs.declared.event.Event.{Event}
use Rattle.pf_scenario.specs.declared.event.Event.TheVariants.{Delay}
use Rattle.pf_scenario.specs.declared.event.Numbered.{Numbered}
use Rattle.pf_scenario.specs.declared.settings.TheConstants.{WIDE_HORIZON}
use Rattle.pf_run.specs.Inside.{Joined}
use Rattle.pf_collections.specs.Table.Grown.{value_of}
use Rattle.pf_collections.specs.Table.Lists.{noted_of}
use Rattle.pf_tally.specs.Held.{delay_from, next_in, held_from}
use Rattle.pf_tally.specs.Late.{due_at, ran_late}
use Rattle.pf_tally.specs.Quanta.{slots_in}
use Rattle.pf_tally.specs.declared.held.Held.{Held}
use Rattle.pf_tally.specs.declared.miss.Miss.{Miss}
use Rattle.pf_tally.specs.declared.progress.Progress.{Progress}
use Rattle.pf_tally.specs.declared.walk.Walk.{Walk}

-- the miss of subtask i that runs in slot t, where it is due in the slot `due`
abbrev pub late_quantum : ℕ → ℕ → ℕ → ℕ → List Miss
late_quantum task i due t = cond (nat_le due t) (ran_late task i due t ∷ []) []

-- the misses of the subtasks from i on, which run in these slots
abbrev pub late_quanta : Joined → List Held → ℕ → List ℕ → List Miss
late_quanta j held i [] = []
late_quanta j held i (t ∷ ts) = late_quantum j.task i (due_at j held i) t ++ late_quanta j held (i + 1) ts

-- the delays of a task among these events, by the rows of a run
abbrev pub delays_in : List (List (Option Pick)) → Joined → List Numbered → List Held
delays_in rows j xs = held_from (next_in (slots_in rows j.task)) j j.slot xs

-- how far a task of this weight has come that received so many quanta and has this shift
abbrev pub come : Share → ℕ → ℕ → Progress
come w received shift = record { weight = w; received = received; shift = shift }

-- how far a task has come after the first t rows and these events
abbrev pub progress_at : List (List (Option Pick)) → ℕ → List Numbered → Joined → Progress
progress_at rows t xs j =
    come j.weight (length (slots_in (take t rows) j.task)) (j.slot + sum_by (λ x. delay_from j x.event) xs)

-- the walk is after the first t rows and these events, as far as the task is concerned
pub record IsAt (rows : List (List (Option Pick))) (t : ℕ) (xs : List Numbered) (walk : Walk) (j : Joined) : Type 0 where
  pub progress : value_of walk.progress j.task ≡ Some (progress_at rows t xs j)
  pub delays : noted_of walk.delays j.task ≡ delays_in rows j xs
  pub late : noted_of walk.late j.task ≡ late_quanta j (delays_in rows j xs) 1 (slots_in (take t rows) j.task)

-- these tasks have numbers of their own
pub record AreApart (tasks : List Joined) : Type 0 where
  pub numbers : All (λ j. j.task ≤ LARGEST_TASK) tasks
  pub joined : All (λ j. j.slot ≤ WIDE_HORIZON) tasks
  pub apart : AllPairs (λ a b. a.task ≢ b.task) tasks

-- so many quanta and slots of shift are the most that a task has
abbrev pub IsWithin : ℕ → ℕ → Option Progress → Type 0
IsWithin t most None = Unit {0}
IsWithin t most (Some p) = (p.received ≤ t) × (p.shift ≤ most)

pub record AreWithin (t most : ℕ) (walk : Walk) : Type 0 where
  pub none : walk.progress.1 ≡ None
  pub each : (task : ℕ) → IsWithin t most (value_of walk.progress task)

-- a walk of these tasks that is at slot 0
pub record IsNew (tasks : List Joined) (walk : Walk) : Type 0 where
  pub at : (rows : List (List (Option Pick))) → All (IsAt rows 0 [] walk) tasks
  pub within : AreWithin 0 WIDE_HORIZON walk

-- one quantum more
abbrev pub with_quantum : Option Progress → Option Progress
with_quantum None = None
with_quantum (Some p) = Some (come p.weight (p.received + 1) p.shift)

-- the miss of that quantum, in slot t
abbrev pub late_of : ℕ → ℕ → Option Progress → List Miss
late_of task t None = []
late_of task t (Some p) = late_quantum task (p.received + 1) (deadline_of p.weight (p.received + 1) + p.shift) t

-- the tasks that pass the test ran in slot t
pub record HaveRun (old new : Walk) (ran : ℕ → Bool) (t : ℕ) : Type 0 where
  pub progress : (task : ℕ) → value_of new.progress task ≡ cond (ran task) (with_quantum (value_of old.progress task)) (value_of old.progress task)
  pub late : (task : ℕ) → noted_of new.late task ≡ noted_of old.late task ++ cond (ran task) (late_of task t (value_of old.progress task)) []
  pub delays : new.delays ≡ old.delays
  pub none : new.progress.1 ≡ old.progress.1

-- the walk went on from one slot to another
pub record HasWalked (rows : List (List (Option Pick))) (from to : ℕ) (old new : Walk) : Type 0 where
  pub at : (j : Joined) (xs : List Numbered) → All (λ x. slot_of x.event ≤ from) xs → IsAt rows from xs old j → IsAt rows to xs new j
  pub within : (most : ℕ) → AreWithin from most old → AreWithin to most new

-- one delay more
abbrev pub with_delay : ℕ → Option Progress → Option Progress
with_delay by None = None
with_delay by (Some p) = Some (come p.weight p.received (p.shift + by))

-- what it holds back
abbrev pub held_of : ℕ → Option Progress → List Held
held_of by None = []
held_of by (Some p) = record { sub = p.received + 1; shift = p.shift; by = by } ∷ []

-- the task was delayed by so many slots
pub record IsHeldBack (old new : Walk) (task by : ℕ) : Type 0 where
  pub progress : (n : ℕ) → value_of new.progress n ≡ cond (task == n) (with_delay by (value_of old.progress n)) (value_of old.progress n)
  pub delays : (n : ℕ) → noted_of new.delays n ≡ noted_of old.delays n ++ cond (task == n) (held_of by (value_of old.progress n)) []
  pub late : new.late ≡ old.late
  pub none : new.progress.1 ≡ old.progress.1

-- the event took effect
abbrev pub HasEvent : Walk → Walk → Event → Type 0
HasEvent old new (Delay slot task by) = IsHeldBack old new task by
HasEvent old new event = new ≡ old
