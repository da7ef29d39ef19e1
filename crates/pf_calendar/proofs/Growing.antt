-- More heaps and more room.
use Rattle.std.proofs.Common.{◌≡◌, ℕ, zero, suc, ◌+◌, ◌-◌, ◌^◌, ◌≤◌, cond, eqb, ltb, List, [], ◌∷◌, ◌++◌, length, get_or, refl, sym, ap, ◌∙◌, subst, arith}
use Rattle.std.specs.Prelude.{replicate, All}
use Rattle.std.specs.List.{range_with_len}
use Rattle.std.proofs.lemmas.Bool.Decides.{nat_tests}
use Rattle.std.proofs.lemmas.List.{length-append}
use Rattle.std.proofs.lemmas.List.Elements.{All-append}
use Rattle.std.proofs.lemmas.List.FromFn.{length-range_with_len, get_or-range_with_len}
use Rattle.std.specs.Ordering.{nat_cmp}
use Rattle.std.specs.FinSet as fin
use Rattle.std.specs.FinMap as finmap
use Rattle.std.specs.FinMap.Entries.{is_sorted}
use Rattle.pf_heap.specs.Keys.{Keys, Heaps, list_of, all_lists}
use Rattle.pf_calendar.specs.declared.waiting_list.WaitingList.{WaitingList}
use Rattle.pf_calendar.specs.Invariant.{lists_in, waiting_in, names_of, name_count, IsLaidOut, IsCalendar}
use Rattle.pf_calendar.specs.Steps.{AddsHeaps}
use Rattle.pf_calendar.proofs.Naming.{no_entry, name_count-cons, name_count-append, name_count-nil, lists_same}
use Rattle.pf_calendar.proofs.Apart.{apart_by}
use Rattle.pf_calendar.proofs.Whole.{seen, waiting_is}

none_more : (n i : ℕ) → get_or {A = Keys} (replicate n fin.empty) i fin.empty ≡ fin.empty
none_more zero i = refl
none_more (suc n) zero = refl
none_more (suc n) (suc i) = none_more n i

pub list_grown : (lists : List Keys) (n i : ℕ) → get_or (lists ++ replicate n fin.empty) i fin.empty ≡ get_or lists i fin.empty
list_grown [] n i = none_more n i
list_grown (l ∷ lists) n zero = refl
list_grown (l ∷ lists) n (suc i) = list_grown lists n i

length_more : (n : ℕ) → length {A = Keys} (replicate n fin.empty) ≡ n
length_more zero = refl
length_more (suc n) = ap suc (length_more n)

below_or_at : (h a : ℕ) → cond {A = ℕ} (ltb h a) 1 0 + cond {A = ℕ} (eqb a h) 1 0 ≡ cond {A = ℕ} (ltb h (a + 1)) 1 0
below_or_at h a = grind (arith, nat_tests)

name_count-range : (h a n b : ℕ) → b ≡ a + n → cond {A = ℕ} (ltb h a) 1 0 + name_count h (range_with_len a n) ≡ cond {A = ℕ} (ltb h b) 1 0
name_count-range h a zero b e = omega (arith, name_count-nil h, ap (λ m. cond {A = ℕ} (ltb h m) 1 0) (let s : a ≡ b = omega arith in s))
name_count-range h a (suc n) b e =
    omega (arith, name_count-cons h a (range_with_len (a + 1) n), below_or_at h a, name_count-range h (a + 1) n b (omega arith))

module _ {heaps : Heaps} {es : List WaitingList} {unused : List ℕ} {held limit room unused_room : ℕ} (laid : IsLaidOut heaps es unused held limit room unused_room)
    (heaps' : Heaps) (n : ℕ) (main : heaps'.main ≡ heaps.main) (lists : heaps'.lists ≡ heaps.lists ++ replicate n fin.empty) where
  pub list_kept : (i : ℕ) → list_of heaps' i ≡ list_of heaps i
  list_kept i = ap (λ l. get_or l i fin.empty) lists ∙ list_grown heaps.lists n i

  any_kept : (i : ℕ) → get_or (all_lists heaps') i fin.empty ≡ get_or (all_lists heaps) i fin.empty
  any_kept zero = main
  any_kept (suc i) = list_kept i

  lists_kept : lists_in heaps' es ≡ lists_in heaps es
  lists_kept = lists_same heaps heaps' es (λ k lt. list_kept (get_or es k no_entry).heap)

  pub waiting_kept : waiting_in heaps' es ≡ waiting_in heaps es
  waiting_kept = waiting_is heaps' es ∙ ap finmap.from_sorted lists_kept ∙ sym (waiting_is heaps es)

  pub seen_kept : (m : ℕ) → heaps'.tasks ≡ heaps.tasks → seen heaps' es m ≡ seen heaps es m
  seen_kept m tasks = λ i. record { ready = main i; waiting = waiting_kept i; spare = m; tasks = tasks i }

  pub grown : (unused' : List ℕ) (limit' room' unused_room' : ℕ) → unused' ≡ unused ++ range_with_len (length heaps.lists) n → held ≤ limit' → limit' ≤ length es + length unused + n →
      limit' ≤ held + heaps'.spare → length es + length unused + n ≤ 2 ^ 32 - 3 → length es + length unused + n ≤ room' → length es + length unused + n ≤ unused_room' →
      IsLaidOut heaps' es unused' held limit' room' unused_room'
  grown unused' limit' room' unused_room' names within enough spare small in_room in_unused =
      let long : length heaps'.lists ≡ length heaps.lists + n = omega (arith, ap length lists, length-append heaps.lists (replicate {A = Keys} n fin.empty), length_more n) in
      let long_names : length unused' ≡ length unused + n = omega (arith, ap length names, length-append unused (range_with_len (length heaps.lists) n), length-range_with_len (length heaps.lists) n) in
      let more_empty : All (λ h. list_of heaps' h ≡ fin.empty) (range_with_len (length heaps.lists) n) = λ k d lt.
      list_kept (get_or (range_with_len (length heaps.lists) n) k d)
      ∙ past heaps.lists (get_or (range_with_len (length heaps.lists) n) k d)
      (omega (arith, get_or-range_with_len (length heaps.lists) n k d (omega (arith, lt, length-range_with_len (length heaps.lists) n)))) in
      record {
        rise = ap (is_sorted nat_cmp) lists_kept ∙ laid.rise;
        named = λ h. omega (
          arith,
          laid.named h,
          ap (λ l. name_count h (names_of es ++ l)) names,
          name_count-append h (names_of es) unused,
          name_count-append h (names_of es) (unused ++ range_with_len (length heaps.lists) n),
          name_count-append h unused (range_with_len (length heaps.lists) n),
          name_count-range h (length heaps.lists) n (length heaps'.lists) long,
        );
        many = omega (arith, laid.many, long, long_names);
        small = omega (arith, small, long_names);
        empty = subst (All (λ h. list_of heaps' h ≡ fin.empty)) (sym names)
            (All-append (λ h. list_of heaps' h ≡ fin.empty) unused (range_with_len (length heaps.lists) n) (λ k d lt. list_kept (get_or unused k d) ∙ laid.empty k d lt) more_empty);
        counted = λ k d lt. laid.counted k d lt ∙ ap fin.len (sym (list_kept (get_or es k d).heap));
        apart = apart_by (all_lists heaps) (all_lists heaps') (λ i. i) (λ i p h. (i, sym (ap (λ l. fin.contains l p) (any_kept i)) ∙ h, refl)) laid.apart;
        held_is = omega (arith, laid.held_is, ap fin.len main);
        within = within;
        enough = omega (arith, enough, long_names);
        spare = spare;
        room_is = omega (arith, in_room, long_names);
        unused_room_is = omega (arith, in_unused, long_names);
      } where
        past : (l : List Keys) (i : ℕ) → length l ≤ i → get_or l i fin.empty ≡ fin.empty
        past [] i le = refl
        past (x ∷ l) zero le = absurd (omega (arith, le))
        past (x ∷ l) (suc i) le = past l i (omega (arith, le))

-- what is kept by the growths of a reservation
pub reserved_seen : {heaps : Heaps} {es : List WaitingList} {unused : List ℕ} {held limit room unused_room : ℕ} → IsLaidOut heaps es unused held limit room unused_room →
    (heaps' : Heaps) (es' : List WaitingList) (n m : ℕ) → heaps'.main ≡ heaps.main → heaps'.lists ≡ heaps.lists ++ replicate n fin.empty → heaps'.tasks ≡ heaps.tasks → es' ≡ es →
    seen heaps' es' m ≡ seen heaps es m
reserved_seen {heaps} {es} laid heaps' es' n m main lists tasks same = ap (λ l. seen heaps' l m) same ∙ seen_kept laid heaps' n main lists m tasks

pub reserved : {heaps : Heaps} {es : List WaitingList} {unused : List ℕ} {held limit room unused_room : ℕ} → IsCalendar heaps es unused held limit room unused_room →
    (mid heaps' : Heaps) (es' : List WaitingList) (unused2 unused' : List ℕ) (n limit' room' unused_room' : ℕ) → mid.main ≡ heaps.main → mid.lists ≡ heaps.lists → es' ≡ es → unused2 ≡ unused → AddsHeaps mid heaps' unused2 unused' n →
    held ≤ limit' → limit' ≤ length es + length unused + n → limit' ≤ held + mid.spare → length es + length unused + n ≤ 2 ^ 32 - 3 →
    length es + length unused + n ≤ room' → length es + length unused + n ≤ unused_room' → IsCalendar heaps' es' unused' held limit' room' unused_room'
reserved {heaps} {es} {unused} {held} cal mid heaps' es' unused2 unused' n limit' room' unused_room' main_is mid_is same same_unused adds within enough spare small in_room in_unused =
    subst (λ (l : List WaitingList). IsCalendar heaps' l unused' held limit' room' unused_room') (sym same)
    (record {
      laid = grown cal.laid heaps' n (adds.main ∙ main_is) (adds.lists ∙ ap (λ l. l ++ replicate n fin.empty) mid_is) unused' limit' room' unused_room'
          (adds.noted ∙ (λ i. same_unused i ++ range_with_len (length (mid_is i)) n)) within enough (omega (arith, spare, adds.spare)) small in_room in_unused;
      some = cal.some;
    })
