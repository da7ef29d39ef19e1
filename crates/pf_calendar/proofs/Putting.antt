-- A key that is put into a calendar.
use Rattle.std.proofs.Common.{◌≡◌, ◌≢◌, ℕ, suc, ◌+◌, ◌-◌, ◌<◌, ◌≤◌, false, List, [], ◌∷◌, ◌++◌, length, get_or, set, take, drop, refl, sym, ap, ◌∙◌, subst, arith, ⊎_elim, None, Some}
use Rattle.std.specs.Prelude.{insert, sum_by, All}
use Rattle.std.proofs.lemmas.Bool.{cases_lt, false_from_ne_true}
use Rattle.std.proofs.lemmas.List.{get_or-set_same, get_or-set_other, get_or_default, set_at, length-take-le, get_or_push, length_push, get_or_read}
use Rattle.std.proofs.lemmas.List.Edits.{length-insert, get_or-insert_at}
use Rattle.std.proofs.lemmas.List.Elements.{All-append, All-take, All-drop, All-cons, All-set}
use Rattle.std.proofs.lemmas.List.Sums.{get_or-le-sum_by}
use Rattle.std.specs.Ordering.{nat_cmp}
use Rattle.std.specs.FinSet as fin
use Rattle.std.specs.FinSet.{len-empty}
use Rattle.std.specs.FinMap as finmap
use Rattle.pf_order.specs.Priority.{Priority, key_cmp}
use Rattle.pf_heap.specs.Keys as keys
use Rattle.pf_heap.specs.Keys.{Keys, Heaps, list_of, with_list, all_lists, EachTaskOnce}
use Rattle.pf_calendar.specs.declared.waiting_list.WaitingList.{WaitingList}
use Rattle.pf_calendar.specs.Queues.{Queues, list_at, IsQueued}
use Rattle.pf_calendar.specs.Invariant.{lists_in, waiting_in, IsLaidOut}
use Rattle.pf_calendar.specs.Steps.{HasEntry, Opens}
use Rattle.pf_calendar.proofs.Naming.{no_entry, lists_set, lists-insert, length-lists, slot_at, list_at_place}
use Rattle.pf_calendar.proofs.Sets.{len-insert_new}
use Rattle.pf_calendar.proofs.Slots.{rises, find_at}
use Rattle.pf_calendar.proofs.Maps.{set_in, list_found, none_found}
use Rattle.pf_calendar.proofs.Arranged.{entry_listed, entries_apart, entry_changed, entry_opened, opened_lists}
use Rattle.pf_calendar.proofs.Whole.{seen, waiting_is, IsCalendarAfter, entries_as, apart_insert, some_free, absent_from}

-- the entry as the code writes it
entry_written : (es : List WaitingList) (at : ℕ) (e f : WaitingList) → at < length es → e ≡ get_or es at e → f ≡ get_or es at f → (n : ℕ → ℕ) →
    set es at (record { slot = f.slot; heap = f.heap; count = n e.count }) ≡ set es at (record (get_or es at no_entry) { count = n (get_or es at no_entry).count })
entry_written es at e f lt read_e read_f n =
    let p : e ≡ get_or es at no_entry = get_or_read es at e lt read_e no_entry in
    let q : f ≡ get_or es at no_entry = get_or_read es at f lt read_f no_entry in
    λ i. set es at (record { slot = (q i).slot; heap = (q i).heap; count = n (p i).count })

-- what an insert says, at the entry as it is read
put_into : (heaps heaps' : Heaps) (es : List WaitingList) (at : ℕ) (e : WaitingList) (key : Priority) → at < length es → e ≡ get_or es at e →
    heaps' ≡ record (with_list heaps e.heap (fin.insert (list_of heaps e.heap) key)) { spare = heaps.spare - 1 } →
    heaps' ≡ record (with_list heaps (get_or es at no_entry).heap (fin.insert (list_of heaps (get_or es at no_entry).heap) key)) { spare = heaps.spare - 1 }
put_into heaps heaps' es at e key lt read is =
    let p : e ≡ get_or es at no_entry = get_or_read es at e lt read no_entry in
    is ∙ (λ i. record (with_list heaps (p i).heap (fin.insert (list_of heaps (p i).heap) key)) { spare = heaps.spare - 1 })

module _ {heaps : Heaps} {es : List WaitingList} {unused : List ℕ} {held limit room unused_room : ℕ} (laid : IsLaidOut heaps es unused held limit room unused_room)
    {es1 : List WaitingList} {left : List ℕ} {slot at : ℕ} (opens : Opens es es1 unused left slot at) where
  pub opened : IsLaidOut heaps es1 left held limit room unused_room
  opened =
      ⊎_elim
      (λ w. subst (λ (l : List WaitingList). IsLaidOut heaps l left held limit room unused_room) (sym w.1)
      (subst (λ (l : List ℕ). IsLaidOut heaps es l held limit room unused_room) (sym w.2) laid))
      (λ w. subst (λ (l : List WaitingList). IsLaidOut heaps l left held limit room unused_room) (sym w.3) (entry_opened laid left w.0 slot at w.2 opens.place w.1))
      opens.ways

  pub opened_within : at < length es1
  opened_within =
      ⊎_elim (λ w. omega (arith, w.0.0, ap length w.1))
      (λ w. omega (arith, opens.place.within, ap length w.3, length-insert es at (record { slot = slot; heap = w.0; count = 0 }) opens.place.within))
      opens.ways

  entry_is : (h : ℕ) → es1 ≡ insert es at (record { slot = slot; heap = h; count = 0 }) → get_or es1 at no_entry ≡ record { slot = slot; heap = h; count = 0 }
  entry_is h is = ap (λ l. get_or l at no_entry) is ∙ get_or-insert_at es at (record { slot = slot; heap = h; count = 0 }) no_entry opens.place.within

  pub opened_slot : (get_or es1 at no_entry).slot ≡ slot
  opened_slot =
      ⊎_elim (λ w. ap (λ l. (get_or l at no_entry).slot) w.1 ∙ w.0.1 no_entry) (λ w. ap (λ (e : WaitingList). e.slot) (entry_is w.0 w.3)) opens.ways

  fresh_empty : (h : ℕ) → unused ≡ left ++ h ∷ [] → list_of heaps h ≡ fin.empty
  fresh_empty h is =
      ap (list_of heaps) (sym (ap (λ l. get_or l (length left) 0) is ∙ get_or_push left h 0 (length left) refl))
      ∙ laid.empty (length left) 0 (omega (arith, ap length is, length_push left h))

  slots_differ : ¬ (HasEntry es slot at) → (k : ℕ) → k < length (lists_in heaps es) → (get_or (lists_in heaps es) k (0, fin.empty)).0 ≢ slot
  slots_differ fresh k lt e =
      let lk : k < length es = omega (arith, lt, length-lists heaps es) in
      ⊎_elim
      (λ below. absurd (omega (arith, opens.place.before k no_entry below, slot_at heaps es k fin.empty lk, e)))
      (λ le. ⊎_elim
      (λ above. absurd (omega (
        arith,
        opens.place.after at no_entry (omega arith) (omega (arith, above, lk)),
        rises (lists_in heaps es) at k (0, fin.empty) laid.rise above lt,
        slot_at heaps es at fin.empty (omega (arith, above, lk)),
        e,
      )))
      (λ le2. fresh (
        omega (arith, le, le2, lk),
        λ d.
            ap (λ j. (get_or es j d).slot) (let s : at ≡ k = omega (arith, le, le2) in s)
            ∙ ap (λ (x : WaitingList). x.slot) (get_or_default es k d no_entry lk) ∙ sym (slot_at heaps es k fin.empty lk) ∙ e,
      ))
      (cases_lt at k))
      (cases_lt k at)

  -- the list of the entry is that of the slot
  pub opened_list : list_of heaps (get_or es1 at no_entry).heap ≡ list_at (waiting_in heaps es) slot
  opened_list =
      ⊎_elim
      (λ w. let lt : at < length (lists_in heaps es) = omega (arith, w.0.0, length-lists heaps es) in
      ap (λ l. list_of heaps (get_or l at no_entry).heap) w.1
      ∙ sym (list_at_place heaps es at fin.empty w.0.0)
      ∙ sym (list_found (lists_in heaps es) (get_or (lists_in heaps es) at (0, fin.empty)).0 (Some (get_or (lists_in heaps es) at (0, fin.empty)).1) laid.rise
      (find_at (lists_in heaps es) at (0, fin.empty) laid.rise lt))
      ∙ ap (list_at (finmap.from_sorted (lists_in heaps es))) (slot_at heaps es at fin.empty w.0.0 ∙ w.0.1 no_entry)
      ∙ ap (λ x. list_at x slot) (sym (waiting_is heaps es)))
      (λ w. ap (λ (e : WaitingList). list_of heaps e.heap) (entry_is w.0 w.3) ∙ fresh_empty w.0 w.2
      ∙ sym (list_found (lists_in heaps es) slot None laid.rise (none_found (lists_in heaps es) slot (slots_differ w.1)))
      ∙ ap (λ x. list_at x slot) (sym (waiting_is heaps es)))
      opens.ways

  -- a new list at the entry is a new list of the slot
  pub opened_map : (new : Keys) → finmap.from_sorted {R = nat_cmp} (set (lists_in heaps es1) at (slot, new)) ≡ finmap.insert (waiting_in heaps es) slot new
  opened_map new =
      ⊎_elim
      (λ w. ap (λ l. finmap.from_sorted (set (lists_in heaps l) at (slot, new))) w.1
      ∙ (set_in (lists_in heaps es) at slot new laid.rise (omega (arith, w.0.0, length-lists heaps es)) (slot_at heaps es at fin.empty w.0.0 ∙ w.0.1 no_entry)).1
      ∙ ap (λ x. finmap.insert x slot new) (sym (waiting_is heaps es)))
      (λ w. ap (λ l. finmap.from_sorted (set (lists_in heaps l) at (slot, new))) w.3
      ∙ ap (λ l. finmap.from_sorted (set l at (slot, new))) (lists-insert heaps es at (record { slot = slot; heap = w.0; count = 0 }))
      ∙ ap finmap.from_sorted (set_at (take at (lists_in heaps es)) (slot, list_of heaps w.0) (drop at (lists_in heaps es)) (slot, new) at
      (length-take-le at (lists_in heaps es) (omega (arith, opens.place.within, length-lists heaps es))))
      ∙ (opened_lists laid new slot at opens.place w.1).1
      ∙ ap (λ x. finmap.insert x slot new) (sym (waiting_is heaps es)))
      opens.ways

  pub opened_size : fin.len (list_of heaps (get_or es1 at no_entry).heap) ≤ sum_by (λ (e : WaitingList). e.count) es
  opened_size =
      ⊎_elim
      (λ w. omega (
        arith,
        ap (λ l. fin.len (list_of heaps (get_or l at no_entry).heap)) w.1,
        laid.counted at no_entry w.0.0,
        get_or-le-sum_by (λ (e : WaitingList). e.count) es at no_entry w.0.0,
      ))
      (λ w. omega (arith, ap (λ (e : WaitingList). fin.len (list_of heaps e.heap)) (entry_is w.0 w.3), ap fin.len (fresh_empty w.0 w.2), len-empty key_cmp))
      opens.ways

  opened_some : (e : WaitingList) → 1 ≤ e.count → All (λ e. 1 ≤ e.count) es → All (λ e. 1 ≤ e.count) (set es1 at e)
  opened_some e some all =
      ⊎_elim
      (λ w. subst (λ (l : List WaitingList). All (λ e. 1 ≤ e.count) (set l at e)) (sym w.1) (All-set (λ (e : WaitingList). 1 ≤ e.count) es at e some all))
      (λ w. subst (All (λ (e : WaitingList). 1 ≤ e.count))
      (sym (ap (λ l. set l at e) w.3 ∙ set_at (take at es) (record { slot = slot; heap = w.0; count = 0 }) (drop at es) e at (length-take-le at es opens.place.within)))
      (All-append (λ (e : WaitingList). 1 ≤ e.count) (take at es) (e ∷ drop at es) (All-take (λ (e : WaitingList). 1 ≤ e.count) at es all)
      (All-cons (λ (e : WaitingList). 1 ≤ e.count) e (drop at es) some (All-drop (λ (e : WaitingList). 1 ≤ e.count) at es all))))
      opens.ways

  abbrev pub PutInto : Heaps → Priority → Type 0
  PutInto heaps' key =
      heaps' ≡ record (with_list heaps (get_or es1 at no_entry).heap (fin.insert (list_of heaps (get_or es1 at no_entry).heap) key)) { spare = heaps.spare - 1 }

  put_laid : (heaps' : Heaps) (key : Priority) → ¬ (keys.IsHeld (all_lists heaps) key.task) → held < limit → PutInto heaps' key →
      IsLaidOut heaps' (set es1 at (record (get_or es1 at no_entry) { count = (get_or es1 at no_entry).count + 1 })) left (held + 1) limit room unused_room
  put_laid heaps' key absent free is =
      let e = get_or es1 at no_entry in
      let new = fin.insert (list_of heaps e.heap) key in
      let h_in : e.heap < length heaps.lists = entry_listed opened at opened_within in
      let none : fin.contains (list_of heaps e.heap) key ≡ false =
      false_from_ne_true (fin.contains (list_of heaps e.heap) key) (λ h. absent (record { list = suc e.heap; key = key; listed = omega (arith, h_in); has = h; of_task = refl })) in
      entry_changed opened heaps' at new (e.count + 1) (held + 1) opened_within (ap (λ h. h.main) is) (ap (λ h. h.lists) is)
      (omega (arith, len-insert_new (list_of heaps e.heap) key none, opened.counted at no_entry opened_within))
      (subst EachTaskOnce (sym (ap (λ h. all_lists h) is)) (apart_insert (all_lists heaps) (suc e.heap) key absent laid.apart))
      (omega arith) (omega (arith, free)) (omega (arith, free, laid.spare, ap (λ h. h.spare) is))

  put_seen : (heaps' : Heaps) (key : Priority) → ¬ (keys.IsHeld (all_lists heaps) key.task) → held < limit → PutInto heaps' key →
      seen heaps' (set es1 at (record (get_or es1 at no_entry) { count = (get_or es1 at no_entry).count + 1 })) (limit - (held + 1))
      ≡ record (seen heaps es (limit - held)) {
        waiting = finmap.insert (waiting_in heaps es) slot (fin.insert (list_at (waiting_in heaps es) slot) key);
        spare = (limit - held) - 1;
      }
  put_seen heaps' key absent free is =
      let e = get_or es1 at no_entry in
      let new = fin.insert (list_of heaps e.heap) key in
      let e' : WaitingList = record e { count = e.count + 1 } in
      let h_in : e.heap < length heaps.lists = entry_listed opened at opened_within in
      let lists : lists_in heaps' (set es1 at e') ≡ set (lists_in heaps es1) at (e.slot, new) =
      lists_set heaps heaps' es1 at e' new opened_within
      (λ k lk ne. ap (λ h. list_of h (get_or es1 k no_entry).heap) is
      ∙ get_or-set_other heaps.lists e.heap (get_or es1 k no_entry).heap new fin.empty (entries_apart opened at k opened_within lk ne))
      (ap (λ h. list_of h e.heap) is ∙ get_or-set_same heaps.lists e.heap new fin.empty h_in) in
      let waits : waiting_in heaps' (set es1 at e') ≡ finmap.insert (waiting_in heaps es) slot (fin.insert (list_at (waiting_in heaps es) slot) key) =
      waiting_is heaps' (set es1 at e') ∙ ap finmap.from_sorted lists ∙ ap (λ s. finmap.from_sorted (set (lists_in heaps es1) at (s, new))) opened_slot
      ∙ opened_map new ∙ ap (λ l. finmap.insert (waiting_in heaps es) slot (fin.insert l key)) opened_list in
      let places : limit - (held + 1) ≡ (limit - held) - 1 = omega (arith, free) in
      λ i. record { ready = (is i).main; waiting = waits i; spare = places i; tasks = (is i).tasks }

  -- the calendar after the put, as the code reads and writes the entry
  pub put_done : {now : Queues} → seen heaps es (limit - held) ≡ now → 1 ≤ now.spare → (key : Priority) → ¬ (IsQueued now key.task) →
      {heaps' : Heaps} {e f : WaitingList} → e ≡ get_or es1 at e → f ≡ get_or es1 at f →
      heaps' ≡ record (with_list heaps e.heap (fin.insert (list_of heaps e.heap) key)) { spare = heaps.spare - 1 } → All (λ x. 1 ≤ x.count) es →
      IsCalendarAfter heaps' (set es1 at (record { slot = f.slot; heap = f.heap; count = e.count + 1 })) left (held + 1) limit room unused_room
      (record now { waiting = finmap.insert now.waiting slot (fin.insert (list_at now.waiting slot) key); spare = now.spare - 1 })
  put_done view some_room key absent {heaps'} {e} {f} read again inserted some =
      let free : held < limit = some_free laid view some_room in
      let none = absent_from laid view key.task absent in
      let into = put_into heaps heaps' es1 at e key opened_within read inserted in
      entries_as (entry_written es1 at e f opened_within read again (λ n. n + 1)) (record {
        calendar = record {
          laid = put_laid heaps' key none free into;
          some = opened_some (record (get_or es1 at no_entry) { count = (get_or es1 at no_entry).count + 1 }) (omega arith) some;
        };
        view = put_seen heaps' key none free into
            ∙ ap (λ (q : Queues). record q { waiting = finmap.insert q.waiting slot (fin.insert (list_at q.waiting slot) key); spare = q.spare - 1 }) view;
      })
