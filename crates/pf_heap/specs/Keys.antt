-- Heaps as contracts see them: a list of keys in the order is the set of its keys, since no two keys are equal.
use Rattle.std.specs.Prelude.{◌≡◌, ◌≢◌, ℕ, ◌<◌, true, false, not, ◌==◌, List, ◌∷◌, length, slice_index_or, slice_set, refl}
use Rattle.std.specs.Coded.{Coded, code_by, coded×, coded_list, coded_ℕ}
use Rattle.std.specs.FinSet as set
use Rattle.pf_order.specs.Priority.{Priority, precedes, key_cmp}

-- keys in the order: `items` lists them, the first one first
abbrev pub Keys : Type 0
Keys = set.FinSet key_cmp

-- k is one of the keys, and none precedes it
abbrev pub IsFirst : Keys → Priority → Type 0
IsFirst keys k = (set.contains keys k ≡ true) × ((q : Priority) → set.contains keys q ≡ true → precedes q k ≡ false)

-- the keys of all tasks but this one
abbrev pub other_keys : Keys → ℕ → Keys
other_keys keys task = set.retain keys (λ k. not (k.task == task))

-- none of the keys is of this task
abbrev pub HasNone : Keys → ℕ → Type 0
HasNone keys task = (q : Priority) → set.contains keys q ≡ true → q.task ≢ task

-- the main heap's keys, the lists of the others, how many keys can be inserted before there is no room, and the number
-- below which a task's key can be
pub record Heaps : Type 0 where
  pub main : Keys
  pub lists : List Keys
  pub spare : ℕ
  pub tasks : ℕ

-- list h
abbrev pub list_of : Heaps → ℕ → Keys
list_of heaps h = slice_index_or heaps.lists h set.empty

-- the keys of all heaps, those of the main one first
abbrev pub all_lists : Heaps → List Keys
all_lists heaps = heaps.main ∷ heaps.lists

-- list h becomes these keys
abbrev pub with_list : Heaps → ℕ → Keys → Heaps
with_list heaps h keys = record heaps { lists = slice_set heaps.lists h keys }

-- some list has a key of this task
pub record IsHeld (lists : List Keys) (task : ℕ) : Type 0 where
  pub list : ℕ
  pub key : Priority
  pub listed : list < length lists
  pub has : set.contains (slice_index_or lists list set.empty) key ≡ true
  pub of_task : key.task ≡ task

-- no task has two keys: keys of one task are one key, in one list
abbrev pub EachTaskOnce : List Keys → Type 0
EachTaskOnce lists = (i j : ℕ) (p q : Priority) →
    set.contains (slice_index_or lists i set.empty) p ≡ true → set.contains (slice_index_or lists j set.empty) q ≡ true
    → p.task ≡ q.task → (i ≡ j) × (p ≡ q)

abbrev pub priority_code : Coded Priority
priority_code =
    code_by (ℕ × (ℕ × (ℕ × (ℕ × ℕ)))) (coded× coded_ℕ (coded× coded_ℕ (coded× coded_ℕ (coded× coded_ℕ coded_ℕ))))
    (λ k. (k.deadline, (k.bit, (k.group, (k.task, k.sub)))))
    (λ p. record { deadline = p.0; bit = p.1.0; group = p.1.1.0; task = p.1.1.1.0; sub = p.1.1.1.1 })
    (λ _. refl)

abbrev pub heaps_code : Coded Heaps
heaps_code =
    code_by (Keys × (List Keys × (ℕ × ℕ)))
    (coded× (set.code priority_code) (coded× (coded_list (set.code priority_code)) (coded× coded_ℕ coded_ℕ)))
    (λ h. (h.main, (h.lists, (h.spare, h.tasks))))
    (λ p. record { main = p.0; lists = p.1.0; spare = p.1.1.0; tasks = p.1.1.1 }) (λ _. refl)
