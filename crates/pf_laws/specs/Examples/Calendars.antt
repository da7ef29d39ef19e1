-- Worked examples of calendars, of the keys A, B and C of the order.
use Rattle.std.specs.Prelude.{◌≡◌, ◌≢◌, ℕ, ◌+◌, ◌-◌, [], ◌∷◌}
use Rattle.std.specs.FinSet as set
use Rattle.std.specs.FinMap as map
use Rattle.pf_order.specs.Priority.{Priority}
use Rattle.pf_calendar.specs.Queues.{Queues, Holds, IsQueued, TakesOut, list_at, later, due}
use Rattle.pf_laws.specs.Examples.Order.{key_a, key_b, key_c}
use Rattle.pf_laws.specs.Examples.Heaps.{ComeOut}

-- an empty calendar with room for three keys
abbrev pub empty : Queues
empty = record { ready = set.empty; waiting = map.empty; spare = 3; tasks = 4 }

-- the calendar after a key was put at a slot
abbrev pub put_at : ℕ → Priority → Queues → Queues
put_at slot key q = record q { waiting = map.insert q.waiting slot (set.insert (list_at q.waiting slot) key); spare = q.spare - 1 }

-- B waits for slot 2, C for slot 0 and A for slot 5
abbrev pub filled : Queues
filled = put_at 5 key_a (put_at 0 key_c (put_at 2 key_b empty))

-- the calendar in slot 2
abbrev pub advanced : Queues
advanced = record filled { ready = set.union filled.ready (due 2 filled.waiting); waiting = later 2 filled.waiting }

-- then C is popped
abbrev pub popped : Queues
popped = record advanced { ready = set.remove advanced.ready key_c; spare = advanced.spare + 1 }

-- then A is taken out, which waited
abbrev pub taken : Queues
taken = record popped { waiting = map.empty; spare = popped.spare + 1 }

pub record WorkedCalendar : Type 0 where
  -- in slot 2 C and B are ready, in this order, and A waits for slot 5; no other slot has a key
  pub ready : ComeOut advanced.ready (key_c ∷ key_b ∷ [])
  pub waiting : ComeOut (list_at advanced.waiting 5) (key_a ∷ [])
  pub no_other : (s : ℕ) → s ≢ 5 → list_at advanced.waiting s ≡ set.empty
  -- after C was popped B is left
  pub left : ComeOut popped.ready (key_b ∷ [])
  -- the key of task 1 is A, and it has no other; to take it out leaves none that waits
  pub of_task : key_a.task ≡ 1
  pub only_a : (k : Priority) → Holds popped k → k.task ≡ 1 → k ≡ key_a
  pub takes_out : TakesOut popped taken key_a
  -- a second time there is none of task 1
  pub none_left : ¬ (IsQueued taken 1)
  -- B is popped last
  pub last : ComeOut taken.ready (key_b ∷ [])
