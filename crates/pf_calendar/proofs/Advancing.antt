-- The due lists are merged into the ready one.
use Rattle.std.proofs.Common.{◌≡◌, ℕ, zero, suc, ◌+◌, ◌-◌, ◌*◌, ◌<◌, ◌≤◌, true, cond, eqb, ltb, leb, List, [], ◌∷◌, ◌++◌, map, length, get_or, take, drop, refl, sym, ap, ◌∙◌, subst, arith, ⊎_elim}
use Rattle.std.specs.Prelude.{sum_by, All}
use Rattle.std.proofs.Math.Nat.{mul-le-mul_left}
use Rattle.std.proofs.lemmas.Bool.{cases_lt, le-leb, lt-leb, lt-ltb, le-ltb, ne_eqb, eq-eqb}
use Rattle.std.proofs.lemmas.List.{take-map, drop-map, length-take-le, length-drop, length-append, get_or-take, get_or_default, get_or-map, length-map}
use Rattle.std.proofs.lemmas.List.Elements.{All-append, All-drop, All-take}
use Rattle.std.proofs.lemmas.List.Sums.{sum_by-cons, sum_by-take-drop}
use Rattle.std.specs.Ordering.{nat_cmp}
use Rattle.std.specs.FinSet as fin
use Rattle.std.specs.FinSet.{len-empty}
use Rattle.std.specs.FinMap as finmap
use Rattle.std.specs.FinMap.Entries.{is_sorted}
use Rattle.pf_order.specs.Priority.{Priority, key_cmp}
use Rattle.pf_heap.specs.Keys.{Heaps, list_of, all_lists, EachTaskOnce}
use Rattle.pf_heap.specs.Digits.{digits}
use Rattle.pf_heap.proofs.Digits.{digits-mono}
use Rattle.pf_calendar.specs.declared.waiting_list.WaitingList.{WaitingList}
use Rattle.pf_calendar.specs.Queues.{Queues, all_of, until, later, due, key_count}
use Rattle.pf_calendar.specs.Invariant.{lists_in, waiting_in, names_of, name_count, IsLaidOut}
use Rattle.pf_calendar.specs.Steps.{MergesAll}
use Rattle.pf_calendar.proofs.Naming.{no_entry, name_count-cons, name_count-append, name_count-take-drop, at_named, named_at, name_at, length-names, lists_same, length-lists, slot_at, one_of}
use Rattle.pf_calendar.proofs.Sets.{has_none, union_cases, some_list, len-union_apart}
use Rattle.pf_calendar.proofs.Apart.{Has, apart_by}
use Rattle.pf_calendar.proofs.Slots.{where_front, where_back}
use Rattle.pf_calendar.proofs.Maps.{in_order, retained_in, entries_in}
use Rattle.pf_calendar.proofs.Merging.{CanMergeAll}
use Rattle.pf_calendar.proofs.Arranged.{entry_listed, once, split_names}
use Rattle.pf_calendar.proofs.Whole.{seen, waiting_is, count_is, sum_counts, IsCalendarAfter, entries_as}

-- the first n entries are due at slot t, and no other
pub record AreDue (es : List WaitingList) (t n : ℕ) : Type 0 where
  pub within : n ≤ length es
  pub front : (k : ℕ) (d : WaitingList) → k < n → (get_or es k d).slot ≤ t
  pub back : (k : ℕ) (d : WaitingList) → n ≤ k → k < length es → t < (get_or es k d).slot

names-take : (n : ℕ) (es : List WaitingList) → names_of (take n es) ≡ take n (names_of es)
names-take n es = sym (take-map (λ e. e.heap) n es)

names-drop : (n : ℕ) (es : List WaitingList) → names_of (drop n es) ≡ drop n (names_of es)
names-drop n es = sym (drop-map (λ e. e.heap) n es)

-- lists that are named once share no key
len-all_named : (heaps : Heaps) (names : List ℕ) → EachTaskOnce (all_lists heaps) → ((h : ℕ) → name_count h names ≤ 1) →
    fin.len (all_of (map (list_of heaps) names)) ≡ sum_by fin.len (map (list_of heaps) names)
len-all_named heaps [] apart once = len-empty key_cmp
len-all_named heaps (n ∷ names) apart once =
    let shared : (q : Priority) → fin.contains (list_of heaps n) q ≡ true → fin.contains (all_of (map (list_of heaps) names)) q ≡ true → ⊥ = λ q here there.
    let m = some_list (map (list_of heaps) names) q there in
    let lk : m.0 < length names = omega (arith, m.1, length-map names (list_of heaps)) in
    let also : fin.contains (list_of heaps (get_or names m.0 0)) q ≡ true = sym (ap (λ l. fin.contains l q) (get_or-map (list_of heaps) names m.0 0 fin.empty lk)) ∙ m.2 in
    let same : suc n ≡ suc (get_or names m.0 0) = (apart (suc n) (suc (get_or names m.0 0)) q q here also refl).0 in
    absurd (omega (arith, once n, name_count-cons n n names, one_of n n refl, at_named n names m.0 lk (omega (arith, same)))) in
    omega (
      arith,
      len-union_apart (list_of heaps n) (all_of (map (list_of heaps) names)) shared,
      len-all_named heaps names apart (λ h. omega (arith, once h, name_count-cons h n names)),
      sum_by-cons fin.len (list_of heaps n) (map (list_of heaps) names),
    )

sum-named : (heaps : Heaps) (es : List WaitingList) → sum_by fin.len (map (list_of heaps) (names_of es)) ≡ sum_by (λ (e : WaitingList). fin.len (list_of heaps e.heap)) es
sum-named heaps [] = refl
sum-named heaps (e ∷ es) =
    omega (arith, sum_by-cons fin.len (list_of heaps e.heap) (map (list_of heaps) (names_of es)), sum_by-cons (λ (x : WaitingList). fin.len (list_of heaps x.heap)) e es, sum-named heaps es)

module _ {heaps : Heaps} {es : List WaitingList} {unused : List ℕ} {held limit room unused_room : ℕ} (laid : IsLaidOut heaps es unused held limit room unused_room)
    {t n : ℕ} (are_due : AreDue es t n) where
  abbrev front : List WaitingList
  front = take n es

  abbrev back : List WaitingList
  back = drop n es

  long_front : length front ≡ n
  long_front = length-take-le n es are_due.within

  long_back : length back + n ≡ length es
  long_back = omega (arith, length-drop n es, are_due.within)

  split_times : (h : ℕ) → name_count h (names_of front) + name_count h (names_of back) ≡ name_count h (names_of es)
  split_times h = omega (arith, ap (name_count h) (names-take n es), ap (name_count h) (names-drop n es), name_count-take-drop h (names_of es) n)

  pub can_merge : CanMergeAll heaps front
  can_merge = (
    λ k d lt.
        let short : k < n = omega (arith, lt, long_front) in
        let within : k < length es = omega (arith, short, are_due.within) in
        let is : get_or front k d ≡ get_or es k no_entry = get_or-take n es k d short ∙ get_or_default es k d no_entry within in
        subst (λ (e : WaitingList). e.heap < length heaps.lists) (sym is) (entry_listed laid k within),
    λ h. omega (arith, once laid h, split_times h),
  )

  back_unmerged : (k : ℕ) → k < length back → name_count (get_or back k no_entry).heap (names_of front) ≡ 0
  back_unmerged k lt =
      omega (
        arith,
        once laid (get_or back k no_entry).heap,
        split_times (get_or back k no_entry).heap,
        at_named (get_or back k no_entry).heap (names_of back) k (omega (arith, lt, length-names back)) (name_at back k),
      )

  -- ---- the lists by slot

  slot_in : (k : ℕ) → k < length es → (get_or (lists_in heaps es) k (0, fin.empty)).0 ≡ (get_or es k no_entry).slot
  slot_in k lt = slot_at heaps es k fin.empty lt

  lists_front : lists_in heaps front ≡ take n (lists_in heaps es)
  lists_front = sym (take-map (λ (e : WaitingList). (e.slot, list_of heaps e.heap)) n es)

  lists_back : lists_in heaps back ≡ drop n (lists_in heaps es)
  lists_back = sym (drop-map (λ (e : WaitingList). (e.slot, list_of heaps e.heap)) n es)

  is_until : (in_order (lists_in heaps front) ≡ true) × (finmap.from_sorted {R = nat_cmp} (lists_in heaps front) ≡ until t (finmap.from_sorted (lists_in heaps es)))
  is_until =
      retained_in (lists_in heaps es) (lists_in heaps front) (λ s. leb s t) laid.rise
      (where_front (λ s. leb s t) (lists_in heaps es) n (0, fin.empty) (omega (arith, are_due.within, length-lists heaps es))
      (λ k lt. let w : k < length es = omega (arith, lt, are_due.within) in
      le-leb (get_or (lists_in heaps es) k (0, fin.empty)).0 t (omega (arith, slot_in k w, are_due.front k no_entry lt)))
      (λ k le lt. let w : k < length es = omega (arith, lt, length-lists heaps es) in
      lt-leb (get_or (lists_in heaps es) k (0, fin.empty)).0 t (omega (arith, slot_in k w, are_due.back k no_entry le w)))
      ∙ sym lists_front)

  is_later : (in_order (lists_in heaps back) ≡ true) × (finmap.from_sorted {R = nat_cmp} (lists_in heaps back) ≡ later t (finmap.from_sorted (lists_in heaps es)))
  is_later =
      retained_in (lists_in heaps es) (lists_in heaps back) (λ s. ltb t s) laid.rise
      (where_back (λ s. ltb t s) (lists_in heaps es) n (0, fin.empty) (omega (arith, are_due.within, length-lists heaps es))
      (λ k lt. let w : k < length es = omega (arith, lt, are_due.within) in
      le-ltb t (get_or (lists_in heaps es) k (0, fin.empty)).0 (omega (arith, slot_in k w, are_due.front k no_entry lt)))
      (λ k le lt. let w : k < length es = omega (arith, lt, length-lists heaps es) in
      lt-ltb t (get_or (lists_in heaps es) k (0, fin.empty)).0 (omega (arith, slot_in k w, are_due.back k no_entry le w)))
      ∙ sym lists_back)

  entries_until : finmap.entries (until t (waiting_in heaps es)) ≡ lists_in heaps front
  entries_until =
      ap (λ m. finmap.entries (until t m)) (waiting_is heaps es) ∙ ap finmap.entries (sym is_until.1) ∙ entries_in (lists_in heaps front) is_until.0

  values_front : (l : List WaitingList) → map (λ e. e.1) (lists_in heaps l) ≡ map (list_of heaps) (names_of l)
  values_front [] = refl
  values_front (e ∷ l) = ap (λ x. list_of heaps e.heap ∷ x) (values_front l)

  pub due_is : due t (waiting_in heaps es) ≡ all_of (map (list_of heaps) (names_of front))
  due_is = ap (λ l. all_of (map (λ e. e.1) l)) entries_until ∙ ap all_of (values_front front)

  merged_count : finmap.len (until t (waiting_in heaps es)) ≡ n
  merged_count = finmap.len-entries (until t (waiting_in heaps es)) ∙ ap length entries_until ∙ length-lists heaps front ∙ long_front

  merged_size : (m : ℕ) → fin.len heaps.main + sum_by (λ (e : WaitingList). fin.len (list_of heaps e.heap)) front ≤ key_count (seen heaps es m)
  merged_size m =
      omega (arith, count_is laid m, sum_counts laid es laid.counted, sum_by-take-drop (λ (e : WaitingList). fin.len (list_of heaps e.heap)) es n)

  -- what the merges cost, on what contracts see
  pub merges_cost : {m : ℕ} {now : Queues} → seen heaps es m ≡ now →
      length front * digits (fin.len heaps.main + sum_by (λ (e : WaitingList). fin.len (list_of heaps e.heap)) front) ≤ finmap.len (until t now.waiting) * digits (key_count now)
  merges_cost {m} {now} view =
      let size = fin.len heaps.main + sum_by (λ (e : WaitingList). fin.len (list_of heaps e.heap)) front in
      let more : n * digits size ≤ n * digits (key_count now) =
      mul-le-mul_left n (digits-mono size (key_count now) (omega (arith, merged_size m, ap key_count view))) in
      let counted : finmap.len (until t now.waiting) ≡ n = ap (λ (q : Queues). finmap.len (until t q.waiting)) (sym view) ∙ merged_count in
      omega (arith, more, ap (λ k. k * digits size) long_front, ap (λ k. k * digits (key_count now)) counted)

  -- ---- after the merges

  module _ (heaps' : Heaps) (merges : MergesAll heaps heaps' (names_of front)) where
    back_same : lists_in heaps' back ≡ lists_in heaps back
    back_same = lists_same heaps heaps' back (λ k lt. merges.others (get_or back k no_entry).heap (back_unmerged k lt))

    advanced_seen : (m : ℕ) → seen heaps' back m ≡ record (seen heaps es m) {
      ready = fin.union heaps.main (due t (waiting_in heaps es));
      waiting = later t (waiting_in heaps es);
    }
    advanced_seen m =
        let here : heaps'.main ≡ fin.union heaps.main (due t (waiting_in heaps es)) = merges.merged ∙ ap (fin.union heaps.main) (sym due_is) in
        let waits : waiting_in heaps' back ≡ later t (waiting_in heaps es) =
        waiting_is heaps' back ∙ ap finmap.from_sorted back_same ∙ is_later.1 ∙ ap (later t) (sym (waiting_is heaps es)) in
        λ i. record { ready = here i; waiting = waits i; spare = m; tasks = merges.tasks i }

    -- where the keys of a list go
    abbrev goes : ℕ → ℕ
    goes zero = zero
    goes (suc j) = cond (eqb (name_count j (names_of front)) 0) (suc j) zero

    goes_front : (j : ℕ) → 1 ≤ name_count j (names_of front) → goes (suc j) ≡ zero
    goes_front j le = ap (λ b. cond b (suc j) zero) (ne_eqb (name_count j (names_of front)) 0 (λ e. omega (arith, le, e)))

    goes_other : (j : ℕ) → name_count j (names_of front) ≡ 0 → goes (suc j) ≡ suc j
    goes_other j e = ap (λ b. cond b (suc j) zero) (eq-eqb (name_count j (names_of front)) 0 e)

    comes_from : (i : ℕ) (p : Priority) → Has (all_lists heaps') i p → (j : ℕ) × (Has (all_lists heaps) j p) × (goes j ≡ i)
    comes_from zero p h =
        ⊎_elim
        (λ was. (zero, was, refl))
        (λ came.
        let m = some_list (map (list_of heaps) (names_of front)) p came in
        let lk : m.0 < length (names_of front) = omega (arith, m.1, length-map (names_of front) (list_of heaps)) in (
          suc (get_or (names_of front) m.0 0),
          sym (ap (λ l. fin.contains l p) (get_or-map (list_of heaps) (names_of front) m.0 0 fin.empty lk)) ∙ m.2,
          goes_front (get_or (names_of front) m.0 0) (at_named (get_or (names_of front) m.0 0) (names_of front) m.0 lk refl),
        ))
        (union_cases heaps.main (all_of (map (list_of heaps) (names_of front))) p (sym (ap (λ l. fin.contains l p) merges.merged) ∙ h))
    comes_from (suc i) p h =
        ⊎_elim
        (λ none.
        let zero_times : name_count i (names_of front) ≡ 0 = omega (arith, none) in
        (suc i, sym (ap (λ l. fin.contains l p) (merges.others i zero_times)) ∙ h, goes_other i zero_times))
        (λ le.
        let m = named_at i (names_of front) (omega (arith, le)) in
        absurd (has_none p (sym (ap (λ l. fin.contains l p) (sym (ap (list_of heaps') m.2) ∙ merges.emptied m.0 0 m.1)) ∙ h)))
        (cases_lt (name_count i (names_of front)) 1)

    -- the main list shares no key with those that are merged into it
    main_shares_none : (q : Priority) → fin.contains heaps.main q ≡ true → fin.contains (all_of (map (list_of heaps) (names_of front))) q ≡ true → ⊥
    main_shares_none q here there =
        let m = some_list (map (list_of heaps) (names_of front)) q there in
        let lk : m.0 < length (names_of front) = omega (arith, m.1, length-map (names_of front) (list_of heaps)) in
        let also : fin.contains (list_of heaps (get_or (names_of front) m.0 0)) q ≡ true =
        sym (ap (λ l. fin.contains l q) (get_or-map (list_of heaps) (names_of front) m.0 0 fin.empty lk)) ∙ m.2 in
        absurd (omega (arith, (laid.apart zero (suc (get_or (names_of front) m.0 0)) q q here also refl).0))

    advanced_laid : (unused' : List ℕ) → unused' ≡ unused ++ names_of front → IsLaidOut heaps' back unused' held limit room unused_room
    advanced_laid unused' names =
        let long_names : length unused' ≡ length unused + n = omega (arith, ap length names, length-append unused (names_of front), length-names front, long_front) in
        let emptied : All (λ h. list_of heaps' h ≡ fin.empty) (unused ++ names_of front) =
        All-append (λ h. list_of heaps' h ≡ fin.empty) unused (names_of front)
        (λ k d lt. let is : get_or unused k d ≡ get_or unused k 0 = get_or_default unused k d 0 lt in
        merges.others (get_or unused k d)
        (omega (arith, once laid (get_or unused k d), split_times (get_or unused k d), at_named (get_or unused k d) unused k lt (sym is)))
        ∙ laid.empty k d lt)
        merges.emptied in
        record {
          rise = ap (is_sorted nat_cmp) back_same ∙ is_later.0;
          named = λ h. omega (
            arith,
            ap (λ l. name_count h (names_of back ++ l)) names,
            name_count-append h (names_of back) (unused ++ names_of front),
            name_count-append h unused (names_of front),
            split_times h,
            split_names laid h,
            ap (λ m. cond {A = ℕ} (ltb h m) 1 0) merges.long,
          );
          many = omega (arith, laid.many, merges.long, long_names, long_back);
          small = omega (arith, laid.small, long_names, long_back);
          empty = subst (All (λ h. list_of heaps' h ≡ fin.empty)) (sym names) emptied;
          counted = λ k d lt.
              let is : get_or back k d ≡ get_or back k no_entry = get_or_default back k d no_entry lt in
              subst (λ (e : WaitingList). e.count ≡ fin.len (list_of heaps' e.heap)) (sym is)
              (All-drop (λ (e : WaitingList). e.count ≡ fin.len (list_of heaps e.heap)) n es laid.counted k no_entry lt
              ∙ ap fin.len (sym (merges.others (get_or back k no_entry).heap (back_unmerged k lt))));
          apart = apart_by (all_lists heaps) (all_lists heaps') goes comes_from laid.apart;
          held_is = omega (
            arith,
            laid.held_is,
            ap fin.len merges.merged,
            len-union_apart heaps.main (all_of (map (list_of heaps) (names_of front))) main_shares_none,
            len-all_named heaps (names_of front) laid.apart (λ h. omega (arith, once laid h, split_times h)),
            sum-named heaps front,
            sum_counts laid front (All-take (λ (e : WaitingList). e.count ≡ fin.len (list_of heaps e.heap)) n es laid.counted),
            sum_by-take-drop (λ (e : WaitingList). e.count) es n,
          );
          within = laid.within;
          enough = omega (arith, laid.enough, long_names, long_back);
          spare = omega (arith, laid.spare, merges.spare);
          room_is = omega (arith, laid.room_is, long_names, long_back);
          unused_room_is = omega (arith, laid.unused_room_is, long_names, long_back);
        }

    -- the calendar after the merges, as the code has its lists
    pub advanced : {now : Queues} → seen heaps es (limit - held) ≡ now → {es' : List WaitingList} {unused' : List ℕ} → es' ≡ back → unused' ≡ unused ++ names_of front → All (λ e. 1 ≤ e.count) es →
        IsCalendarAfter heaps' es' unused' held limit room unused_room (record now { ready = fin.union now.ready (due t now.waiting); waiting = later t now.waiting })
    advanced view {es'} {unused'} left names some =
        entries_as left (record {
          calendar = record { laid = advanced_laid unused' names; some = All-drop (λ (e : WaitingList). 1 ≤ e.count) n es some };
          view = advanced_seen (limit - held) ∙ ap (λ (q : Queues). record q { ready = fin.union q.ready (due t q.waiting); waiting = later t q.waiting }) view;
        })
