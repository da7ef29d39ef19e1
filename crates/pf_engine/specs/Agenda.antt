-- What an engine's calendar holds: of each task inside the key of its next subtask.
use Rattle.std.specs.Prelude.{◌≡◌, ◌≢◌, ℕ, ◌+◌, ◌-◌, ◌<◌, ◌≤◌, ◌↔◌, ◌⊎◌, IsTrue, true, max, Option, None, Some, List, length, All, AllPairs, Contains}
use Rattle.std.specs.FinSet as set
use Rattle.std.specs.FinMap as map
use Rattle.pf_order.specs.Priority.{Priority, precedes}
use Rattle.pf_calendar.specs.Queues.{Queues, list_at, list_in, Holds, key_count, NoneEmpty}
use Rattle.pf_admit.specs.declared.member.Member.{Member}
use Rattle.pf_run.specs.Inside.{eligible_from, next_key}
use Rattle.pf_engine.specs.Fits.{KeptTask, Kept}
use Rattle.pf_engine.specs.Kept.{ready_keys}

-- where the key of a member's next subtask stands: it is ready, since the subtask may run, or it waits for the first
-- slot from now on in which it may
abbrev pub StandsIn : ℕ → Member → Option ℕ → Type 0
StandsIn now m None = eligible_from m ≤ now
StandsIn now m (Some s) = s ≡ max (eligible_from m) now

-- the key is that of the next subtask of one of these tasks, and stands there
pub record IsNextOf (now : ℕ) (are : KeptTask → Type 0) (place : Option ℕ) (key : Priority) : Type 0 where
  pub kept : KeptTask
  pub among : are kept
  pub is : key ≡ next_key kept.task kept.member
  pub stands : StandsIn now kept.member place

-- a calendar has the key of the next subtask of each of these tasks, and no other key
pub record HasNext (q : Queues) (now : ℕ) (are : KeptTask → Type 0) : Type 0 where
  pub only : (place : Option ℕ) (key : Priority) → set.contains (list_in q place) key ≡ true → IsNextOf now are place key
  pub each : (k : KeptTask) → are k → Holds q (next_key k.task k.member)

-- one of these tasks, of which none of these keys is
pub record IsOther (tasks : List KeptTask) (away : List Priority) (k : KeptTask) : Type 0 where
  pub among : Contains tasks k
  pub apart : All (λ q. q.task ≢ k.task) away

-- a calendar of these tasks, while the keys of some of them are away: it has the next keys of all others, as many as
-- these are, no list that waits is empty, and there is room for the keys that are away
pub record IsAgenda (q : Queues) (now : ℕ) (tasks : List KeptTask) (away : List Priority) : Type 0 where
  pub next : HasNext q now (IsOther tasks away)
  pub count : key_count q + length away ≡ length tasks
  pub some : NoneEmpty q.waiting
  pub numbers : All (λ k. k.task < q.tasks) tasks
  pub room : length away ≤ q.spare

-- the key was put for the slot
abbrev pub with_put : Queues → ℕ → Priority → Queues
with_put q slot key = record q {
  waiting = map.insert q.waiting slot (set.insert (list_at q.waiting slot) key);
  spare = q.spare - 1;
}

-- the ready keys are those of the subtasks that may run
abbrev pub IsReady : Queues → Kept → Type 0
IsReady q e = (k : Priority) → set.contains q.ready k ≡ true ↔ Contains (ready_keys e) k

-- these keys, in order and before all ready keys that are left, were taken out
pub record TakesFirst (old new : Queues) (keys : List Priority) : Type 0 where
  pub split : (k : Priority) → set.contains old.ready k ≡ true → Contains keys k ⊎ (set.contains new.ready k ≡ true)
  pub taken : (k : Priority) → Contains keys k → set.contains old.ready k ≡ true
  pub left : (k : Priority) → set.contains new.ready k ≡ true → set.contains old.ready k ≡ true
  pub in_order : AllPairs (λ x y. IsTrue (precedes x y)) keys
  pub ahead : (x y : Priority) → Contains keys x → set.contains new.ready y ≡ true → IsTrue (precedes x y)
  pub waiting : new.waiting ≡ old.waiting
  pub tasks : new.tasks ≡ old.tasks
  pub spare : new.spare ≡ old.spare + length keys
  pub counted : key_count new + length keys ≡ key_count old
