-- Worked examples of heaps, of the keys A to F of the order.
use Rattle.std.specs.Prelude.{◌≡◌, ℕ, ◌+◌, ◌-◌, true, List, [], ◌∷◌, map}
use Rattle.std.specs.List.{range_with_len}
use Rattle.std.specs.FinSet as set
use Rattle.pf_order.specs.Priority.{Priority}
use Rattle.pf_heap.specs.Keys.{Keys, Heaps, IsFirst, HasNone, IsHeld, list_of, with_list, all_lists, other_keys}
use Rattle.pf_laws.specs.Examples.Order.{key_with, key_a, key_b, key_c, key_e, key_f}

-- k is the first of the keys, and no other is
abbrev pub IsOnlyFirst : Keys → Priority → Type 0
IsOnlyFirst keys k = IsFirst keys k × ((q : Priority) → IsFirst keys q → q ≡ k)

-- the keys come out in this order: each time the first one of those that are left, until none is
abbrev pub ComeOut : Keys → List Priority → Type 0
ComeOut keys [] = keys ≡ set.empty
ComeOut keys (k ∷ ks) = IsOnlyFirst keys k × ComeOut (set.remove keys k) ks

-- an empty main heap and two more, with room for five keys
abbrev pub two_empty : Heaps
two_empty = record { main = set.empty; lists = set.empty ∷ set.empty ∷ []; spare = 5; tasks = 7 }

-- the heaps after an insert
abbrev pub inserted : ℕ → Priority → Heaps → Heaps
inserted h key heaps = record (with_list heaps h (set.insert (list_of heaps h) key)) { spare = heaps.spare - 1 }

-- A, E and F are in heap 0, B and C in heap 1
abbrev pub filled : Heaps
filled = inserted 1 key_c (inserted 1 key_b (inserted 0 key_f (inserted 0 key_e (inserted 0 key_a two_empty))))

-- heap 1 is melded into heap 0
abbrev pub melded : Heaps
melded = with_list (with_list filled 1 set.empty) 0 (set.union (list_of filled 0) (list_of filled 1))

-- then C is popped
abbrev pub popped : Heaps
popped = record (with_list melded 0 (set.remove (list_of melded 0) key_c)) { spare = melded.spare + 1 }

-- then the key of task 4 is removed
abbrev pub removed : Heaps
removed = record (with_list popped 0 (other_keys (list_of popped 0) 4)) { spare = popped.spare + 1 }

-- then heap 0 is melded into the main one
abbrev pub gathered : Heaps
gathered = record (with_list removed 0 set.empty) { main = set.union removed.main (list_of removed 0) }

-- keys of the tasks 1 to 15, all of weight 1/1 and subtask 1
abbrev pub fifteen : List Priority
fifteen = map (λ task. key_with task 1 1 1) (range_with_len 1 15)

pub record WorkedHeaps : Type 0 where
  -- both heaps have what was inserted, and there is room for no key more
  pub first_filled : ComeOut (list_of filled 0) (key_f ∷ key_e ∷ key_a ∷ [])
  pub second_filled : ComeOut (list_of filled 1) (key_c ∷ key_b ∷ [])
  pub no_room : filled.spare ≡ 0
  -- after the meld heap 0 is C, F, E, B, A, and heap 1 is empty
  pub first_melded : ComeOut (list_of melded 0) (key_c ∷ key_f ∷ key_e ∷ key_b ∷ key_a ∷ [])
  pub second_melded : list_of melded 1 ≡ set.empty
  -- the first one is C; without it heap 0 is F, E, B, A
  pub least : IsOnlyFirst (list_of melded 0) key_c
  pub first_popped : ComeOut (list_of popped 0) (key_f ∷ key_e ∷ key_b ∷ key_a ∷ [])
  -- the key of task 4 is E, and it has no other; without it heap 0 is F, B, A
  pub has_e : set.contains (list_of popped 0) key_e ≡ true
  pub e_of_task : key_e.task ≡ 4
  pub only_e : (k : Priority) → set.contains (list_of popped 0) k ≡ true → k.task ≡ 4 → k ≡ key_e
  pub first_removed : ComeOut (list_of removed 0) (key_f ∷ key_b ∷ key_a ∷ [])
  -- a second time there is none of task 4, and no heap holds one
  pub none_left : HasNone (list_of removed 0) 4
  pub not_held : ¬ (IsHeld (all_lists removed) 4)
  -- the main heap was empty; after the meld it is F, B, A, and heap 0 is empty
  pub main_empty : removed.main ≡ set.empty
  pub main_melded : ComeOut gathered.main (key_f ∷ key_b ∷ key_a ∷ [])
  pub all_melded : list_of gathered 0 ≡ set.empty
  -- the keys of the tasks 15 down to 1, inserted in this order, come out from task 1 to task 15
  pub by_task : ComeOut (set.from_list fifteen) fifteen
