-- What holds of every calendar.
use Rattle.std.specs.Prelude.{◌≡◌, ℕ, ◌+◌, ◌-◌, ◌≤◌, ◌^◌, ◌==◌, true, List, ◌++◌, map, length, All, if◌then◌else◌, nat_lt, count_by, sum_by}
use Rattle.std.specs.Ordering.{nat_cmp}
use Rattle.std.specs.FinSet as set
use Rattle.std.specs.FinMap as fin
use Rattle.pf_heap.specs.Keys.{Keys, Heaps, list_of, all_lists, EachTaskOnce}
use Rattle.pf_calendar.specs.declared.waiting_list.WaitingList.{WaitingList}
use Rattle.pf_calendar.specs.Queues.{Waiting, list_at}
use Rattle.pf_collections.specs.Table.Grown.{Grown, value_of, size_of}
use Rattle.pf_order.specs.Priority.{Priority}

-- the lists of the entries, with their slots
abbrev pub lists_in : Heaps → List WaitingList → List (ℕ × Keys)
lists_in heaps entries = map (λ e. (e.slot, list_of heaps e.heap)) entries

-- the entries as a map from slot to list
unfoldable pub waiting_in : Heaps → List WaitingList → Waiting
waiting_in heaps entries = fin.from_sorted (lists_in heaps entries)

-- the heaps that the entries name
abbrev pub names_of : List WaitingList → List ℕ
names_of entries = map (λ e. e.heap) entries

-- how often a heap is named
unfoldable pub name_count : ℕ → List ℕ → ℕ
name_count h names = count_by (λ n. n == h) names

-- each heap but the main one has one name: it is an entry's, or it is unused and then empty; the slots of the entries
-- rise; each entry counts its keys; and there are heaps, and room for their names, for the keys held and the spare ones
pub record IsLaidOut (heaps : Heaps) (entries : List WaitingList) (unused : List ℕ) (held limit room unused_room : ℕ) : Type 0 where
  pub rise : fin.is_sorted nat_cmp (lists_in heaps entries) ≡ true
  pub named : (h : ℕ) → name_count h (names_of entries ++ unused) ≡ (if nat_lt h (length heaps.lists) then 1 else 0)
  pub many : length heaps.lists ≡ length entries + length unused
  pub small : length entries + length unused ≤ 2 ^ 32 - 3
  pub empty : All (λ h. list_of heaps h ≡ set.empty) unused
  pub counted : All (λ e. e.count ≡ set.len (list_of heaps e.heap)) entries
  pub apart : EachTaskOnce (all_lists heaps)
  pub held_is : held ≡ set.len heaps.main + sum_by (λ e. e.count) entries
  pub within : held ≤ limit
  pub enough : limit ≤ length entries + length unused
  pub spare : limit ≤ held + heaps.spare
  pub room_is : length entries + length unused ≤ room
  pub unused_room_is : length entries + length unused ≤ unused_room

-- and no entry's list is empty
pub record IsCalendar (heaps : Heaps) (entries : List WaitingList) (unused : List ℕ) (held limit room unused_room : ℕ) : Type 0 where
  pub laid : IsLaidOut heaps entries unused held limit room unused_room
  pub some : All (λ e. 1 ≤ e.count) entries

-- each key that waits, waits for the slot that is noted of its task; and there is room for the notes of these tasks
pub record NotesSlots (slots : Grown ℕ) (tasks : ℕ) (waiting : Waiting) : Type 0 where
  pub slot_is : (s : ℕ) (q : Priority) → set.contains (list_at waiting s) q ≡ true → value_of slots q.task ≡ s
  pub room : tasks ≤ size_of slots
