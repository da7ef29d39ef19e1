-- What a calendar holds: keys that are ready, and keys that wait for a slot.
use Rattle.std.specs.Prelude.{◌≡◌, ℕ, ◌+◌, ◌≤◌, true, List, [], ◌∷◌, ◌⊎◌, ◌==◌, if◌then◌else◌, nat_lt, nat_le, unwrap_or, sum_by, All, Option, None, Some, refl}
use Rattle.std.specs.Ordering.{nat_cmp}
use Rattle.std.specs.Coded.{Coded, code_by, coded×, coded_ℕ}
use Rattle.std.specs.FinSet as set
use Rattle.std.specs.FinMap as map
use Rattle.pf_order.specs.Priority.{Priority}
use Rattle.pf_heap.specs.Keys.{Keys, priority_code}

-- lists of keys by the slot that they wait for
abbrev pub Waiting : Type 0
Waiting = map.FinMap nat_cmp Keys

-- the ready keys, the waiting ones, how many keys can be put before memory is wanted, and the number below which a
-- task's key can be
pub record Queues : Type 0 where
  pub ready : Keys
  pub waiting : Waiting
  pub spare : ℕ
  pub tasks : ℕ

-- the keys that wait for slot s
abbrev pub list_at : Waiting → ℕ → Keys
list_at waiting s = unwrap_or (map.get waiting s) set.empty

-- the lists for slots up to t
abbrev pub until : ℕ → Waiting → Waiting
until t waiting = map.retain_keys waiting (λ s. nat_le s t)

-- the lists for the slots after t
abbrev pub later : ℕ → Waiting → Waiting
later t waiting = map.retain_keys waiting (λ s. nat_lt t s)

-- the keys of all these lists
abbrev pub all_of : List Keys → Keys
all_of [] = set.empty
all_of (keys ∷ lists) = set.union keys (all_of lists)

-- the keys that wait for slots up to t
abbrev pub due : ℕ → Waiting → Keys
due t waiting = all_of (map.values (until t waiting))

-- how many keys are held
abbrev pub key_count : Queues → ℕ
key_count q = set.len q.ready + sum_by set.len (map.values q.waiting)

-- the key is ready, or it waits for some slot
abbrev pub Holds : Queues → Priority → Type 0
Holds q k = (set.contains q.ready k ≡ true) ⊎ ((s : ℕ) × (set.contains (list_at q.waiting s) k ≡ true))

-- some list has a key of this task
pub record IsQueued (q : Queues) (task : ℕ) : Type 0 where
  pub key : Priority
  pub has : Holds q key
  pub of_task : key.task ≡ task

-- the ready list, or that of a slot
abbrev pub list_in : Queues → Option ℕ → Keys
list_in q None = q.ready
list_in q (Some s) = list_at q.waiting s

-- no task has two keys: keys of one task are one key, in one list
abbrev pub EachTaskOnce : Queues → Type 0
EachTaskOnce q = (x y : Option ℕ) (k l : Priority) →
    set.contains (list_in q x) k ≡ true → set.contains (list_in q y) l ≡ true → k.task ≡ l.task → (x ≡ y) × (k ≡ l)

-- no slot waits with an empty list
abbrev pub NoneEmpty : Waiting → Type 0
NoneEmpty waiting = All (λ keys. 1 ≤ set.len keys) (map.values waiting)

-- slot s has this list, or none where it is empty
abbrev pub with_waiting_list : Waiting → ℕ → Keys → Waiting
with_waiting_list waiting s keys = if set.len keys == 0 then map.remove waiting s else map.insert waiting s keys

-- the key was ready, or it waited for some slot, and is there no longer
abbrev pub TakesOut : Queues → Queues → Priority → Type 0
TakesOut old new k =
    ((set.contains old.ready k ≡ true) × (new ≡ record old { ready = set.remove old.ready k; spare = old.spare + 1 }))
    ⊎ ((s : ℕ) × (set.contains (list_at old.waiting s) k ≡ true)
    × (new ≡ record old { waiting = with_waiting_list old.waiting s (set.remove (list_at old.waiting s) k); spare = old.spare + 1 }))

abbrev pub queues_code : Coded Queues
queues_code =
    code_by (Keys × (Waiting × (ℕ × ℕ)))
    (coded× (set.code priority_code) (coded× (map.code coded_ℕ (set.code priority_code)) (coded× coded_ℕ coded_ℕ)))
    (λ q. (q.ready, (q.waiting, (q.spare, q.tasks))))
    (λ p. record { ready = p.0; waiting = p.1.0; spare = p.1.1.0; tasks = p.1.1.1 }) (λ _. refl)
