-- The heaps of a calendar and their names.
use Rattle.std.proofs.Common.{◌≡◌, ◌≢◌, ℕ, ◌+◌, ◌<◌, ◌≤◌, true, cond, ltb, ◌⊎◌, inl, inr, List, [], ◌∷◌, ◌++◌, length, get_or, set, take, drop, refl, sym, ap, ◌∙◌, subst, arith, ⊎_elim}
use Rattle.std.specs.Prelude.{insert, sum_by}
use Rattle.std.proofs.lemmas.Bool.{cases_lt, cases_eq, lt-ltb}
use Rattle.std.proofs.lemmas.Bool.Decides.{nat_tests}
use Rattle.std.proofs.lemmas.List.{length-set, get_or-set_same, get_or-set_other, get_or_default, get_or_push, get_or_append_left, length_push}
use Rattle.std.proofs.lemmas.List.Edits.{length-insert}
use Rattle.std.proofs.lemmas.List.Elements.{All-append, All-take, All-drop, All-cons}
use Rattle.std.proofs.lemmas.List.Sums.{sum_by-set, sum_by-insert}
use Rattle.std.specs.Ordering.{nat_cmp}
use Rattle.std.specs.FinSet as fin
use Rattle.std.specs.FinMap as finmap
use Rattle.std.specs.FinSet.{len-empty}
use Rattle.std.specs.FinMap.Entries.{is_sorted}
use Rattle.pf_order.specs.Priority.{key_cmp}
use Rattle.pf_heap.specs.Keys.{Keys, Heaps, list_of, all_lists, EachTaskOnce}
use Rattle.pf_calendar.specs.declared.waiting_list.WaitingList.{WaitingList}
use Rattle.pf_calendar.specs.Invariant.{lists_in, names_of, name_count, IsLaidOut}
use Rattle.pf_calendar.specs.Steps.{IsSlotPlace, HasEntry}
use Rattle.pf_calendar.proofs.Naming.{no_entry, name_count-cons, name_count-append, name_count-nil, named_at, at_named, one_place, name_at, length-names, names-set, name_count-insert, lists_same, lists_set, lists-insert, length-lists, slot_at}
use Rattle.pf_calendar.proofs.Maps.{in_order, set_in, insert_in}

module _ {heaps : Heaps} {es : List WaitingList} {unused : List ℕ} {held limit room unused_room : ℕ} (laid : IsLaidOut heaps es unused held limit room unused_room) where
  one_or_none : (h n : ℕ) → cond {A = ℕ} (ltb h n) 1 0 ≤ 1
  one_or_none h n = grind (arith, nat_tests)

  below_from : (h n : ℕ) → 1 ≤ cond {A = ℕ} (ltb h n) 1 0 → h < n
  below_from h n le = grind (arith, nat_tests)

  one_from : (h n : ℕ) → h < n → cond {A = ℕ} (ltb h n) 1 0 ≡ 1
  one_from h n lt = ap (λ b. cond {A = ℕ} b 1 0) (lt-ltb h n lt)

  pub split_names : (h : ℕ) → name_count h (names_of es) + name_count h unused ≡ cond {A = ℕ} (ltb h (length heaps.lists)) 1 0
  split_names h = omega (arith, laid.named h, name_count-append h (names_of es) unused)

  pub once : (h : ℕ) → name_count h (names_of es) + name_count h unused ≤ 1
  once h = omega (arith, split_names h, one_or_none h (length heaps.lists))

  listed : (h : ℕ) → 1 ≤ name_count h (names_of es) + name_count h unused → h < length heaps.lists
  listed h le = below_from h (length heaps.lists) (omega (arith, split_names h, le))

  named_in : (k : ℕ) → k < length es → 1 ≤ name_count (get_or es k no_entry).heap (names_of es)
  named_in k lt = at_named (get_or es k no_entry).heap (names_of es) k (omega (arith, lt, length-names es)) (name_at es k)

  pub entry_listed : (k : ℕ) → k < length es → (get_or es k no_entry).heap < length heaps.lists
  entry_listed k lt = listed (get_or es k no_entry).heap (omega (arith, named_in k lt))

  pub entries_apart : (j k : ℕ) → j < length es → k < length es → k ≢ j → (get_or es k no_entry).heap ≢ (get_or es j no_entry).heap
  entries_apart j k lj lk ne e =
      ne (one_place (get_or es j no_entry).heap (names_of es) k j (omega (arith, once (get_or es j no_entry).heap))
      (omega (arith, lk, length-names es)) (omega (arith, lj, length-names es)) (name_at es k ∙ e) (name_at es j))

  pub unused_apart : (k h : ℕ) → k < length unused → 1 ≤ name_count h (names_of es) → get_or unused k 0 ≢ h
  unused_apart k h lt le e = absurd (omega (arith, once h, le, at_named h unused k lt e))

  -- whose list it is
  pub list_cases : (i : ℕ) → i < length heaps.lists → ((k : ℕ) × (k < length es) × ((get_or es k no_entry).heap ≡ i)) ⊎ (list_of heaps i ≡ fin.empty)
  list_cases i lt =
      ⊎_elim
      (λ none. let m = named_at i unused (omega (arith, split_names i, one_from i (length heaps.lists) lt, none)) in
      inr (ap (list_of heaps) (sym m.2) ∙ laid.empty m.0 0 m.1))
      (λ le. let m = named_at i (names_of es) (omega (arith, le)) in
      inl (m.0, omega (arith, m.1, length-names es), sym (name_at es m.0) ∙ m.2))
      (cases_lt (name_count i (names_of es)) 1)

  counted_of : (heaps' : Heaps) (x y : WaitingList) → x ≡ y → y.count ≡ fin.len (list_of heaps' y.heap) → x.count ≡ fin.len (list_of heaps' x.heap)
  counted_of heaps' x y e h = subst (λ (z : WaitingList). z.count ≡ fin.len (list_of heaps' z.heap)) (sym e) h

  -- list h becomes these keys, and `count` of them are counted at its entry
  pub entry_changed : (heaps' : Heaps) (at : ℕ) (keys : Keys) (count held' : ℕ) → at < length es → heaps'.main ≡ heaps.main →
      heaps'.lists ≡ set heaps.lists (get_or es at no_entry).heap keys → count ≡ fin.len keys → EachTaskOnce (all_lists heaps') →
      count + held ≡ held' + (get_or es at no_entry).count → held' ≤ limit → limit ≤ held' + heaps'.spare →
      IsLaidOut heaps' (set es at (record (get_or es at no_entry) { count = count })) unused held' limit room unused_room
  entry_changed heaps' at keys count held' lt main is counts apart sum within spare =
      let e = get_or es at no_entry in
      let e' : WaitingList = record e { count = count } in
      let h_in : e.heap < length heaps.lists = entry_listed at lt in
      let here : list_of heaps' e.heap ≡ keys = ap (λ l. get_or l e.heap fin.empty) is ∙ get_or-set_same heaps.lists e.heap keys fin.empty h_in in
      let other : (i : ℕ) → i ≢ e.heap → list_of heaps' i ≡ list_of heaps i = λ i ne.
      ap (λ l. get_or l i fin.empty) is ∙ get_or-set_other heaps.lists e.heap i keys fin.empty ne in
      let long : length heaps'.lists ≡ length heaps.lists = ap length is ∙ length-set heaps.lists e.heap keys in
      let lists : lists_in heaps' (set es at e') ≡ set (lists_in heaps es) at (e.slot, keys) =
      lists_set heaps heaps' es at e' keys lt (λ k lk ne. other (get_or es k no_entry).heap (entries_apart at k lt lk ne)) here in
      let long_es : length (set es at e') ≡ length es = length-set es at e' in
      record {
        rise = ap (is_sorted nat_cmp) lists ∙ (set_in (lists_in heaps es) at e.slot keys laid.rise (omega (arith, lt, length-lists heaps es)) (slot_at heaps es at fin.empty lt)).0;
        named = λ h. ap (λ ns. name_count h (ns ++ unused)) (names-set es at e' refl) ∙ laid.named h ∙ ap (λ n. cond {A = ℕ} (ltb h n) 1 0) (sym long);
        many = omega (arith, laid.many, long, long_es);
        small = omega (arith, laid.small, long_es);
        empty = λ k d lk. other (get_or unused k d) (λ i. unused_apart k e.heap lk (omega (arith, named_in at lt)) (get_or_default unused k 0 d lk ∙ i)) ∙ laid.empty k d lk;
        counted = λ k d lk.
            ⊎_elim
            (λ same. counted_of heaps' (get_or (set es at e') k d) e' (ap (λ j. get_or (set es at e') j d) same ∙ get_or-set_same es at e' d lt) (counts ∙ ap fin.len (sym here)))
            (λ ne. counted_of heaps' (get_or (set es at e') k d) (get_or es k d) (get_or-set_other es at k e' d ne)
            (laid.counted k d (omega (arith, lk, long_es)) ∙ ap fin.len (sym (other (get_or es k d).heap (λ i.
            entries_apart at k lt (omega (arith, lk, long_es)) ne (ap (λ (x : WaitingList). x.heap) (get_or_default es k no_entry d (omega (arith, lk, long_es))) ∙ i))))))
            (cases_eq k at);
        apart = apart;
        held_is = omega (arith, laid.held_is, sum, sum_by-set (λ (x : WaitingList). x.count) es at e' no_entry lt, ap fin.len main);
        within = within;
        enough = omega (arith, laid.enough, long_es);
        spare = spare;
        room_is = omega (arith, laid.room_is, long_es);
        unused_room_is = omega (arith, laid.unused_room_is, long_es);
      }

  -- the main heap changes
  pub main_changed : (heaps' : Heaps) (held' : ℕ) → heaps'.lists ≡ heaps.lists → EachTaskOnce (all_lists heaps') →
      fin.len heaps'.main + held ≡ held' + fin.len heaps.main → held' ≤ limit → limit ≤ held' + heaps'.spare →
      IsLaidOut heaps' es unused held' limit room unused_room
  main_changed heaps' held' is apart sum within spare =
      let same : (i : ℕ) → list_of heaps' i ≡ list_of heaps i = λ i. ap (λ l. get_or l i fin.empty) is in
      let long : length heaps'.lists ≡ length heaps.lists = ap length is in
      record {
        rise = ap (is_sorted nat_cmp) (lists_same heaps heaps' es (λ k lk. same (get_or es k no_entry).heap)) ∙ laid.rise;
        named = λ h. laid.named h ∙ ap (λ n. cond {A = ℕ} (ltb h n) 1 0) (sym long);
        many = omega (arith, laid.many, long);
        small = laid.small;
        empty = λ k d lk. same (get_or unused k d) ∙ laid.empty k d lk;
        counted = λ k d lk. laid.counted k d lk ∙ ap fin.len (sym (same (get_or es k d).heap));
        apart = apart;
        held_is = omega (arith, laid.held_is, sum);
        within = within;
        enough = laid.enough;
        spare = spare;
        room_is = laid.room_is;
        unused_room_is = laid.unused_room_is;
      }

  before_in : (slot at : ℕ) → IsSlotPlace es slot at → (k : ℕ) → k < at → (get_or (lists_in heaps es) k (0, fin.empty)).0 < slot
  before_in slot at place k lt =
      omega (arith, slot_at heaps es k fin.empty (omega (arith, lt, place.within)), place.before k no_entry lt)

  fresh_in : (slot at : ℕ) → IsSlotPlace es slot at → ¬ (HasEntry es slot at) → at < length (lists_in heaps es) → slot < (get_or (lists_in heaps es) at (0, fin.empty)).0
  fresh_in slot at place fresh lt =
      let within : at < length es = omega (arith, lt, length-lists heaps es) in
      let ne : slot ≢ (get_or es at no_entry).slot = λ e. fresh (within, λ d. ap (λ (x : WaitingList). x.slot) (get_or_default es at d no_entry within) ∙ sym e) in
      omega (arith, place.after at no_entry (omega arith) within, ne, slot_at heaps es at fin.empty within)

  -- a list for a slot that had none
  pub opened_lists : (keys : Keys) (slot at : ℕ) → IsSlotPlace es slot at → ¬ (HasEntry es slot at) →
      (in_order (insert (lists_in heaps es) at (slot, keys)) ≡ true)
      × (finmap.from_sorted {R = nat_cmp} (insert (lists_in heaps es) at (slot, keys)) ≡ finmap.insert (finmap.from_sorted (lists_in heaps es)) slot keys)
  opened_lists keys slot at place fresh =
      insert_in (lists_in heaps es) at slot keys laid.rise (omega (arith, place.within, length-lists heaps es)) (before_in slot at place) (fresh_in slot at place fresh)

  -- an entry that names an unused heap
  pub entry_opened : (left : List ℕ) (h slot at : ℕ) → unused ≡ left ++ h ∷ [] → IsSlotPlace es slot at → ¬ (HasEntry es slot at) →
      IsLaidOut heaps (insert es at (record { slot = slot; heap = h; count = 0 })) left held limit room unused_room
  entry_opened left h slot at is place fresh =
      let e : WaitingList = record { slot = slot; heap = h; count = 0 } in
      let long : length (insert es at e) ≡ length es + 1 = length-insert es at e place.within in
      let long_unused : length unused ≡ length left + 1 = ap length is ∙ length_push left h in
      let empty_at : list_of heaps h ≡ fin.empty =
      ap (list_of heaps) (sym (ap (λ l. get_or l (length left) 0) is ∙ get_or_push left h 0 (length left) refl)) ∙ laid.empty (length left) 0 (omega (arith, long_unused)) in
      let sums : sum_by (λ (x : WaitingList). x.count) (insert es at e) ≡ sum_by (λ (x : WaitingList). x.count) es + 0 = sum_by-insert (λ (x : WaitingList). x.count) es at e in
      record {
        rise = ap (is_sorted nat_cmp) (lists-insert heaps es at e) ∙ (opened_lists (list_of heaps h) slot at place fresh).0;
        named = λ i. omega (
          arith,
          laid.named i,
          name_count-append i (names_of es) unused,
          ap (name_count i) is,
          name_count-append i left (h ∷ []),
          name_count-cons i h [],
          name_count-nil i,
          name_count-append i (names_of (insert es at e)) left,
          name_count-insert i es at e,
        );
        many = omega (arith, laid.many, long, long_unused);
        small = omega (arith, laid.small, long, long_unused);
        empty = λ k d lk. ap (list_of heaps) (sym (ap (λ l. get_or l k d) is ∙ get_or_append_left left (h ∷ []) d k lk)) ∙ laid.empty k d (omega (arith, lk, long_unused));
        counted = All-append (λ (x : WaitingList). x.count ≡ fin.len (list_of heaps x.heap)) (take at es) (e ∷ drop at es)
            (All-take (λ (x : WaitingList). x.count ≡ fin.len (list_of heaps x.heap)) at es laid.counted)
            (All-cons (λ (x : WaitingList). x.count ≡ fin.len (list_of heaps x.heap)) e (drop at es) (sym (ap fin.len empty_at ∙ len-empty key_cmp))
            (All-drop (λ (x : WaitingList). x.count ≡ fin.len (list_of heaps x.heap)) at es laid.counted));
        apart = laid.apart;
        held_is = omega (arith, laid.held_is, sums);
        within = laid.within;
        enough = omega (arith, laid.enough, long, long_unused);
        spare = laid.spare;
        room_is = omega (arith, laid.room_is, long, long_unused);
        unused_room_is = omega (arith, laid.unused_room_is, long, long_unused);
      }
