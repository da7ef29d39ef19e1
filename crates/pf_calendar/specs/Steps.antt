-- What the steps of a calendar's operations do.
use Rattle.std.specs.Prelude.{◌≡◌, ◌≢◌, ℕ, ◌+◌, ◌-◌, ◌<◌, ◌≤◌, List, [], ◌∷◌, ◌++◌, map, length, All, replicate, insert, remove, slice_index_or, slice_set, ◌⊎◌, true}
use Rattle.std.specs.List.{range_with_len}
use Rattle.std.specs.FinSet as set
use Rattle.pf_order.specs.Priority.{Priority}
use Rattle.pf_heap.specs.Keys as heaps
use Rattle.pf_heap.specs.Keys.{Keys, Heaps, list_of, HasNone, other_keys}
use Rattle.pf_calendar.specs.declared.waiting_list.WaitingList.{WaitingList}
use Rattle.pf_calendar.specs.Queues.{all_of}
use Rattle.pf_calendar.specs.Invariant.{name_count}

-- n empty heaps were added, and their names noted
pub record AddsHeaps (old new : Heaps) (names longer : List ℕ) (n : ℕ) : Type 0 where
  pub main : new.main ≡ old.main
  pub lists : new.lists ≡ old.lists ++ replicate n set.empty
  pub spare : new.spare ≡ old.spare
  pub tasks : new.tasks ≡ old.tasks
  pub noted : longer ≡ names ++ range_with_len (length old.lists) n

-- the lists of these heaps were merged into the main one, and are empty
pub record MergesAll (old new : Heaps) (names : List ℕ) : Type 0 where
  pub spare : new.spare ≡ old.spare
  pub tasks : new.tasks ≡ old.tasks
  pub long : length new.lists ≡ length old.lists
  pub merged : new.main ≡ set.union old.main (all_of (map (list_of old) names))
  pub emptied : All (λ h. list_of new h ≡ set.empty) names
  pub others : (h : ℕ) → name_count h names ≡ 0 → list_of new h ≡ list_of old h

-- the entries are for rising slots, no two for one
abbrev pub SlotsRise : List WaitingList → Type 0
SlotsRise entries = (i j : ℕ) (d : WaitingList) → i < j → j < length entries → (slice_index_or entries i d).slot < (slice_index_or entries j d).slot

-- the entries before place `at` are for slots below this one, and the others aren't
pub record IsSlotPlace (entries : List WaitingList) (slot at : ℕ) : Type 0 where
  pub within : at ≤ length entries
  pub before : (k : ℕ) (d : WaitingList) → k < at → (slice_index_or entries k d).slot < slot
  pub after : (k : ℕ) (d : WaitingList) → at ≤ k → k < length entries → slot ≤ (slice_index_or entries k d).slot

-- the slot has an entry at this place
abbrev pub HasEntry : List WaitingList → ℕ → ℕ → Type 0
HasEntry entries slot at = (at < length entries) × ((d : WaitingList) → (slice_index_or entries at d).slot ≡ slot)

-- the slot has an entry: either it had one, or it got one that counts no key and has the last unused name
pub record Opens (old new : List WaitingList) (unused left : List ℕ) (slot at : ℕ) : Type 0 where
  pub place : IsSlotPlace old slot at
  pub ways : ((HasEntry old slot at) × (new ≡ old) × (left ≡ unused))
      ⊎ ((h : ℕ) × (¬ (HasEntry old slot at)) × (unused ≡ left ++ h ∷ []) × (new ≡ insert old at (record { slot = slot; heap = h; count = 0 })))

-- the entry for the slot, if there is one, has no key of the task
pub record HasNoneFor (heaps : Heaps) (entries : List WaitingList) (slot task : ℕ) : Type 0 where
  pub at : ℕ
  pub place : IsSlotPlace entries slot at
  pub none : HasEntry entries slot at → (d : WaitingList) → HasNone (list_of heaps (slice_index_or entries at d).heap) task

-- a key was taken out of the list of the entry at this place, and of no other
pub record RemovesAt (old new : Heaps) (entries : List WaitingList) (task at : ℕ) (key : Priority) : Type 0 where
  pub within : at < length entries
  pub of_task : key.task ≡ task
  pub has : (d : WaitingList) → set.contains (list_of old (slice_index_or entries at d).heap) key ≡ true
  pub removed : (d : WaitingList) → new ≡ record (heaps.with_list old (slice_index_or entries at d).heap
      (other_keys (list_of old (slice_index_or entries at d).heap) task)) { spare = old.spare + 1 }

-- the entry at this place counts one key less: where none is left it is gone, and its heap is unused
abbrev pub Discounts : List WaitingList → List WaitingList → List ℕ → List ℕ → ℕ → Type 0
Discounts old new unused unused_new at = (d : WaitingList) →
    (((slice_index_or old at d).count ≡ 1) × (new ≡ remove old at) × (unused_new ≡ unused ++ (slice_index_or old at d).heap ∷ []))
    ⊎ (((slice_index_or old at d).count ≢ 1)
    × (new ≡ slice_set old at (record (slice_index_or old at d) { count = (slice_index_or old at d).count - 1 })) × (unused_new ≡ unused))
