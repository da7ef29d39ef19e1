-- A task's key is taken out, and a calendar is copied.
use Rattle.std.proofs.Common.{◌≡◌, ◌≢◌, ℕ, suc, ◌+◌, ◌-◌, ◌<◌, ◌≤◌, Bool, true, false, cond, eqb, inr, List, [], ◌∷◌, ◌++◌, length, get_or, set, take, drop, refl, sym, ap, ◌∙◌, subst, arith, ⊎_elim, None, Some, Option}
use Rattle.std.specs.Prelude.{◌&&◌, not, remove, All}
use Rattle.std.proofs.Math.Bool.{and-false, and-true}
use Rattle.std.proofs.lemmas.Bool.{cases_lt, cases_eq, ne_eqb, eq-eqb, false_from_ne_true}
use Rattle.std.proofs.lemmas.List.{length-set, get_or-set_same, get_or-set_other, take-set, drop-set-lt, length_push}
use Rattle.std.proofs.lemmas.List.Edits.{length-remove}
use Rattle.std.proofs.lemmas.List.Elements.{All-append, All-take, All-drop, All-push, All-set}
use Rattle.std.proofs.lemmas.List.Sums.{sum_by-remove, get_or-le-sum_by}
use Rattle.std.specs.Ordering.{nat_cmp, eq_by_cmp}
use Rattle.std.specs.Cmp.{nat_cmp_total}
use Rattle.std.specs.declared.cmp.Ordering.TheVariants.{Equal}
use Rattle.std.specs.FinSet as fin
use Rattle.std.specs.FinSet.{contains-remove, contains-retain, same_set, empty_of_len}
use Rattle.std.specs.FinMap as finmap
use Rattle.std.specs.FinMap.{nat_cmp-IsAntisymmetric, same_map, get-remove}
use Rattle.std.specs.FinMap.Entries.{is_sorted, find, where_key, find-where_key}
use Rattle.pf_order.specs.Priority.{Priority, key_cmp}
use Rattle.pf_order.proofs.Order.{key_cmp_total, only_equal_keys_tie}
use Rattle.pf_heap.specs.Keys as keys
use Rattle.pf_heap.specs.Keys.{Keys, Heaps, list_of, other_keys, all_lists, HasNone, EachTaskOnce}
use Rattle.pf_calendar.specs.declared.waiting_list.WaitingList.{WaitingList}
use Rattle.pf_calendar.specs.Queues.{list_at, with_waiting_list, IsQueued, TakesOut}
use Rattle.pf_calendar.specs.Invariant.{lists_in, waiting_in, names_of, IsLaidOut, IsCalendar}
use Rattle.pf_calendar.specs.Steps.{RemovesAt, Discounts}
use Rattle.pf_calendar.proofs.Naming.{no_entry, name_count-cons, name_count-append, name_count-nil, name_count-remove, lists_set, lists-remove, length-lists, slot_at, list_at_place}
use Rattle.pf_heap.proofs.Sets.{key_alike, tied_keys}
use Rattle.pf_calendar.proofs.Sets.{some_has, remove_in, len-remove_one}
use Rattle.pf_calendar.proofs.Apart.{Has}
use Rattle.pf_calendar.proofs.Slots.{eq_by-same, eq_by-other, rises, find_at, where_but}
use Rattle.pf_calendar.proofs.Maps.{in_order, set_in, get_in, list_found, retained_in}
use Rattle.pf_calendar.proofs.Arranged.{entry_listed, entries_apart, entry_changed}
use Rattle.pf_calendar.proofs.Whole.{seen, waiting_is, apart_part}

-- ---- a copy

pub copied_seen : (heaps heaps' : Heaps) (es es' : List WaitingList) (m n : ℕ) → heaps' ≡ record heaps { spare = 0 } → es' ≡ es → n ≡ 0 →
    seen heaps' es' n ≡ record (seen heaps es m) { spare = 0 }
copied_seen heaps heaps' es es' m n is same none =
    let waits : waiting_in heaps' es' ≡ waiting_in heaps es =
    ap (waiting_in heaps') same ∙ ap (λ h. waiting_in h es) is ∙ waiting_is (record heaps { spare = 0 }) es ∙ sym (waiting_is heaps es) in
    λ i. record { ready = (is i).main; waiting = waits i; spare = none i; tasks = (is i).tasks }

pub copied : {heaps : Heaps} {es : List WaitingList} {unused : List ℕ} {held limit room unused_room : ℕ} → IsCalendar heaps es unused held limit room unused_room →
    (heaps' : Heaps) (es' : List WaitingList) (unused' : List ℕ) (room' unused_room' : ℕ) → heaps' ≡ record heaps { spare = 0 } → es' ≡ es → unused' ≡ unused →
    length es + length unused ≤ room' → length es + length unused ≤ unused_room' → IsCalendar heaps' es' unused' held held room' unused_room'
copied {heaps} {es} {unused} {held} cal heaps' es' unused' room' unused_room' is same same_unused in_room in_unused =
    let laid = cal.laid in
    subst (λ (h : Heaps). IsCalendar h es' unused' held held room' unused_room') (sym is)
    (subst (λ (l : List WaitingList). IsCalendar (record heaps { spare = 0 }) l unused' held held room' unused_room') (sym same)
    (subst (λ (l : List ℕ). IsCalendar (record heaps { spare = 0 }) es l held held room' unused_room') (sym same_unused)
    (record {
      laid = record {
        rise = laid.rise;
        named = laid.named;
        many = laid.many;
        small = laid.small;
        empty = laid.empty;
        counted = laid.counted;
        apart = laid.apart;
        held_is = laid.held_is;
        within = omega arith;
        enough = omega (arith, laid.within, laid.enough);
        spare = omega arith;
        room_is = in_room;
        unused_room_is = in_unused;
      };
      some = cal.some;
    })))

-- ---- one key of a task

same_answers : (b e t : Bool) → (b ≡ true → not t ≡ not e) → (b && not t) ≡ (not e && b)
same_answers true e t h = h refl ∙ sym (and-true (not e))
same_answers false e t h = sym (and-false (not e))

-- to take out a task is to take out its key
pub without_is : (list : Keys) (task : ℕ) (k : Priority) → k.task ≡ task → ((q : Priority) → fin.contains list q ≡ true → q.task ≡ task → q ≡ k) → other_keys list task ≡ fin.remove list k
without_is list task k of_task only =
    same_set key_cmp_total only_equal_keys_tie _ _ (λ q.
    contains-retain list (λ x. not (eqb x.task task)) q (λ x t. ap (λ (y : Priority). not (eqb y.task task)) (sym (only_equal_keys_tie q x t)))
    ∙ same_answers (fin.contains list q) (eq_by_cmp key_cmp q k) (eqb q.task task) (λ h. ap not
    (⊎_elim
    (λ e. eq-eqb q.task task e ∙ sym (ap (λ x. eq_by_cmp key_cmp q x) (sym (only q h e)) ∙ key_alike q))
    (λ ne. ne_eqb q.task task ne
    ∙ sym (false_from_ne_true (eq_by_cmp key_cmp q k) (λ t. ne (ap (λ (x : Priority). x.task) (tied_keys q k t) ∙ of_task))))
    (cases_eq q.task task)))
    ∙ sym (contains-remove key_cmp_total list k q))

-- ---- the list of a slot goes

-- entry `at` is no longer in the map
pub remove_in_map : (es : List (ℕ × Keys)) (at s : ℕ) → in_order es ≡ true → at < length es → (get_or es at (0, fin.empty)).0 ≡ s →
    (in_order (remove es at) ≡ true) × (finmap.from_sorted {R = nat_cmp} (remove es at) ≡ finmap.remove (finmap.from_sorted es) s)
remove_in_map es at s ok lt is =
    let p : ℕ → Bool = λ x. not (eq_by_cmp nat_cmp s x) in
    let passes : (k : ℕ) → k ≢ at → k < length es → p (get_or es k (0, fin.empty)).0 ≡ true = λ k ne lk.
    ap not (eq_by-other s (get_or es k (0, fin.empty)).0 (λ e.
    ⊎_elim (λ below. absurd (omega (arith, rises es k at (0, fin.empty) ok below lt, is, e)))
    (λ ge. ⊎_elim (λ above. absurd (omega (arith, rises es at k (0, fin.empty) ok above lk, is, e)))
    (λ le. ne (omega (arith, ge, le))) (cases_lt at k))
    (cases_lt k at))) in
    let shape : where_key nat_cmp p es ≡ remove es at = where_but p es at (0, fin.empty) lt (ap not (eq_by-same s (get_or es at (0, fin.empty)).0 (sym is))) passes in
    let kept = retained_in es (remove es at) p ok shape in
    let alike : (q x : ℕ) → nat_cmp q x ≡ Equal → p x ≡ p q = λ q x t. ap p (sym (nat_cmp-IsAntisymmetric q x t)) in (
      kept.0,
      same_map nat_cmp_total nat_cmp-IsAntisymmetric (finmap.from_sorted (remove es at)) (finmap.remove (finmap.from_sorted es) s) (λ q.
          get_in (remove es at) q kept.0 ∙ ap (find nat_cmp q) (sym shape) ∙ find-where_key nat_cmp p q (alike q) es
          ∙ turned q (find nat_cmp q es)
          ∙ sym (get-remove nat_cmp_total (finmap.from_sorted es) s q ∙ ap (λ o. cond (eq_by_cmp nat_cmp q s) None o) (get_in es q ok))),
    ) where
      turned : (q : ℕ) (o : Option Keys) → cond (not (eq_by_cmp nat_cmp s q)) o None ≡ cond (eq_by_cmp nat_cmp q s) None o
      turned q o =
          ⊎_elim
          (λ e. ap (λ b. cond (not b) o None) (eq_by-same s q (sym e)) ∙ sym (ap (λ b. cond b None o) (eq_by-same q s e)))
          (λ ne. ap (λ b. cond (not b) o None) (eq_by-other s q (λ e. ne (sym e))) ∙ sym (ap (λ b. cond b None o) (eq_by-other q s ne)))
          (cases_eq q s)

remove-set : (es : List WaitingList) (at : ℕ) (e : WaitingList) → remove (set es at e) at ≡ remove es at
remove-set es at e = λ i. take-set es at e i ++ drop-set-lt (suc at) es at e (omega arith) i

module _ {heaps : Heaps} {es : List WaitingList} {unused : List ℕ} {held limit room unused_room : ℕ} (laid : IsLaidOut heaps es unused held limit room unused_room) where
  -- an entry that counts no key goes
  pub entry_closed : (at : ℕ) → at < length es → (get_or es at no_entry).count ≡ 0 →
      IsLaidOut heaps (remove es at) (unused ++ (get_or es at no_entry).heap ∷ []) held limit room unused_room
  entry_closed at lt none =
      let e = get_or es at no_entry in
      let long : length (remove es at) + 1 ≡ length es = length-remove es at lt in
      let long_unused : length (unused ++ e.heap ∷ []) ≡ length unused + 1 = length_push unused e.heap in
      let gone : list_of heaps e.heap ≡ fin.empty = empty_of_len (list_of heaps e.heap) (sym (laid.counted at no_entry lt) ∙ none) in
      let slot = (remove_in_map (lists_in heaps es) at (get_or (lists_in heaps es) at (0, fin.empty)).0 laid.rise (omega (arith, lt, length-lists heaps es)) refl).0 in
      record {
        rise = ap (is_sorted nat_cmp) (lists-remove heaps es at) ∙ slot;
        named = λ h. omega (
          arith,
          laid.named h,
          name_count-append h (names_of es) unused,
          name_count-append h (names_of (remove es at)) (unused ++ e.heap ∷ []),
          name_count-append h unused (e.heap ∷ []),
          name_count-cons h e.heap [],
          name_count-nil h,
          name_count-remove h es at lt,
        );
        many = omega (arith, laid.many, long, long_unused);
        small = omega (arith, laid.small, long, long_unused);
        empty = All-push (λ h. list_of heaps h ≡ fin.empty) unused e.heap laid.empty gone;
        counted = All-append (λ (x : WaitingList). x.count ≡ fin.len (list_of heaps x.heap)) (take at es) (drop (suc at) es)
            (All-take (λ (x : WaitingList). x.count ≡ fin.len (list_of heaps x.heap)) at es laid.counted)
            (All-drop (λ (x : WaitingList). x.count ≡ fin.len (list_of heaps x.heap)) (suc at) es laid.counted);
        apart = laid.apart;
        held_is = omega (arith, laid.held_is, sum_by-remove (λ (x : WaitingList). x.count) es at no_entry lt);
        within = laid.within;
        enough = omega (arith, laid.enough, long, long_unused);
        spare = laid.spare;
        room_is = omega (arith, laid.room_is, long, long_unused);
        unused_room_is = omega (arith, laid.unused_room_is, long, long_unused);
      }

module _ {heaps : Heaps} {es : List WaitingList} {unused : List ℕ} {held limit room unused_room : ℕ} (laid : IsLaidOut heaps es unused held limit room unused_room) where
  only_key : (i : ℕ) (task : ℕ) (k : Priority) → k.task ≡ task → Has (all_lists heaps) i k → (q : Priority) → Has (all_lists heaps) i q → q.task ≡ task → q ≡ k
  only_key i task k of_task has q h same = (laid.apart i i q k h has (same ∙ sym of_task)).1

  -- a task that no list has isn't held
  pub not_held : (n task : ℕ) → HasNone heaps.main task →
      ((s : ℕ) (q : Priority) → fin.contains (list_at (waiting_in heaps es) s) q ≡ true → q.task ≢ task) → ¬ (IsQueued (seen heaps es n) task)
  not_held n task none_ready none_waiting w =
      ⊎_elim (λ h. none_ready w.key h w.of_task) (λ m. none_waiting m.0 w.key m.1 w.of_task) w.has

  -- from the ready list
  pub ready_removed : (heaps' : Heaps) (task : ℕ) (k : Priority) → k.task ≡ task → fin.contains heaps.main k ≡ true →
      heaps' ≡ record heaps { main = other_keys heaps.main task; spare = heaps.spare + 1 } →
      heaps' ≡ record heaps { main = fin.remove heaps.main k; spare = heaps.spare + 1 }
  ready_removed heaps' task k of_task has is =
      is ∙ ap (λ l. record heaps { main = l; spare = heaps.spare + 1 }) (without_is heaps.main task k of_task (only_key 0 task k of_task has))

  -- ---- from the list of an entry

  module _ (heaps' : Heaps) (task at : ℕ) (k : Priority) (removes : RemovesAt heaps heaps' es task at k) where
    abbrev e : WaitingList
    e = get_or es at no_entry

    abbrev left : Keys
    left = fin.remove (list_of heaps e.heap) k

    abbrev less : WaitingList
    less = record e { count = e.count - 1 }

    left_is : heaps' ≡ record (keys.with_list heaps e.heap left) { spare = heaps.spare + 1 }
    left_is =
        removes.removed no_entry
        ∙ ap (λ l. record (keys.with_list heaps e.heap l) { spare = heaps.spare + 1 })
        (without_is (list_of heaps e.heap) task k removes.of_task (only_key (suc e.heap) task k removes.of_task (removes.has no_entry)))

    pub some_there : 1 ≤ e.count
    some_there = omega (arith, some_has (list_of heaps e.heap) k (removes.has no_entry), laid.counted at no_entry removes.within)

    size_left : e.count - 1 ≡ fin.len left
    size_left = omega (arith, len-remove_one (list_of heaps e.heap) k (removes.has no_entry), laid.counted at no_entry removes.within)

    pub some_held : 1 ≤ held
    some_held = omega (arith, some_there, get_or-le-sum_by (λ (x : WaitingList). x.count) es at no_entry removes.within, laid.held_is)

    taken_laid : IsLaidOut heaps' (set es at less) unused (held - 1) limit room unused_room
    taken_laid =
        entry_changed laid heaps' at left (e.count - 1) (held - 1) removes.within (ap (λ h. h.main) left_is) (ap (λ h. h.lists) left_is) size_left
        (subst EachTaskOnce (sym (ap (λ h. all_lists h) left_is)) (apart_part (all_lists heaps) (suc e.heap) left (λ p h. remove_in (list_of heaps e.heap) k p h) laid.apart))
        (omega (arith, some_there, some_held)) (omega (arith, laid.within)) (omega (arith, some_held, laid.spare, ap (λ h. h.spare) left_is))

    pub discounted_calendar : (es' : List WaitingList) (unused' : List ℕ) → All (λ x. 1 ≤ x.count) es → Discounts es es' unused unused' at →
        IsCalendar heaps' es' unused' (held - 1) limit room unused_room
    discounted_calendar es' unused' some ways =
        ⊎_elim
        (λ w.
        let less_at : get_or (set es at less) at no_entry ≡ less = get_or-set_same es at less no_entry removes.within in
        let closed : IsLaidOut heaps' (remove es at) (unused ++ e.heap ∷ []) (held - 1) limit room unused_room =
        subst (λ (l : List WaitingList). IsLaidOut heaps' l (unused ++ e.heap ∷ []) (held - 1) limit room unused_room) (remove-set es at less)
        (subst (λ (x : WaitingList). IsLaidOut heaps' (remove (set es at less) at) (unused ++ x.heap ∷ []) (held - 1) limit room unused_room) less_at
        (entry_closed taken_laid at (omega (arith, removes.within, length-set es at less)) (ap (λ (x : WaitingList). x.count) less_at ∙ omega (arith, w.0)))) in
        subst (λ (l : List WaitingList). IsCalendar heaps' l unused' (held - 1) limit room unused_room) (sym w.1)
        (subst (λ (l : List ℕ). IsCalendar heaps' (remove es at) l (held - 1) limit room unused_room) (sym w.2)
        (record {
          laid = closed;
          some = All-append (λ (x : WaitingList). 1 ≤ x.count) (take at es) (drop (suc at) es) (All-take (λ (x : WaitingList). 1 ≤ x.count) at es some) (All-drop (λ (x : WaitingList). 1 ≤ x.count) (suc at) es some);
        })))
        (λ w.
        subst (λ (l : List WaitingList). IsCalendar heaps' l unused' (held - 1) limit room unused_room) (sym w.1)
        (subst (λ (l : List ℕ). IsCalendar heaps' (set es at less) l (held - 1) limit room unused_room) (sym w.2)
        (record {
          laid = taken_laid;
          some = All-set (λ (x : WaitingList). 1 ≤ x.count) es at less (omega (arith, some_there, w.0)) some;
        })))
        (ways no_entry)

    slot_list : list_at (waiting_in heaps es) e.slot ≡ list_of heaps e.heap
    slot_list =
        let lt : at < length (lists_in heaps es) = omega (arith, removes.within, length-lists heaps es) in
        ap (λ x. list_at x e.slot) (waiting_is heaps es)
        ∙ ap (list_at (finmap.from_sorted (lists_in heaps es))) (sym (slot_at heaps es at fin.empty removes.within))
        ∙ list_found (lists_in heaps es) (get_or (lists_in heaps es) at (0, fin.empty)).0 (Some (get_or (lists_in heaps es) at (0, fin.empty)).1) laid.rise
        (find_at (lists_in heaps es) at (0, fin.empty) laid.rise lt)
        ∙ list_at_place heaps es at fin.empty removes.within

    same_elsewhere : (j : ℕ) → j < length es → j ≢ at → list_of heaps' (get_or es j no_entry).heap ≡ list_of heaps (get_or es j no_entry).heap
    same_elsewhere j lt ne =
        ap (λ h. list_of h (get_or es j no_entry).heap) left_is
        ∙ get_or-set_other heaps.lists e.heap (get_or es j no_entry).heap left fin.empty (entries_apart laid at j removes.within lt ne)

    lists_taken : lists_in heaps' (set es at less) ≡ set (lists_in heaps es) at (e.slot, left)
    lists_taken =
        lists_set heaps heaps' es at less left removes.within same_elsewhere
        (ap (λ h. list_of h e.heap) left_is ∙ get_or-set_same heaps.lists e.heap left fin.empty (entry_listed laid at removes.within))

    -- what waits afterwards
    waits_gone : e.count ≡ 1 → waiting_in heaps' (remove es at) ≡ with_waiting_list (waiting_in heaps es) e.slot left
    waits_gone one =
        let lt : at < length (lists_in heaps es) = omega (arith, removes.within, length-lists heaps es) in
        let lists : lists_in heaps' (remove es at) ≡ remove (lists_in heaps es) at =
        ap (lists_in heaps') (sym (remove-set es at less)) ∙ lists-remove heaps' (set es at less) at ∙ ap (λ l. remove l at) lists_taken
        ∙ removed_set (lists_in heaps es) at (e.slot, left) in
        waiting_is heaps' (remove es at) ∙ ap finmap.from_sorted lists
        ∙ (remove_in_map (lists_in heaps es) at e.slot laid.rise lt (slot_at heaps es at fin.empty removes.within)).1
        ∙ ap (λ x. finmap.remove x e.slot) (sym (waiting_is heaps es))
        ∙ sym (ap (λ b. cond b (finmap.remove (waiting_in heaps es) e.slot) (finmap.insert (waiting_in heaps es) e.slot left)) (eq-eqb (fin.len left) 0 (omega (arith, size_left, one)))) where
          removed_set : (l : List (ℕ × Keys)) (i : ℕ) (x : ℕ × Keys) → remove (set l i x) i ≡ remove l i
          removed_set l i x = λ j. take-set l i x j ++ drop-set-lt (suc i) l i x (omega arith) j

    waits_less : e.count ≢ 1 → waiting_in heaps' (set es at less) ≡ with_waiting_list (waiting_in heaps es) e.slot left
    waits_less more =
        let lt : at < length (lists_in heaps es) = omega (arith, removes.within, length-lists heaps es) in
        waiting_is heaps' (set es at less) ∙ ap finmap.from_sorted lists_taken
        ∙ (set_in (lists_in heaps es) at e.slot left laid.rise lt (slot_at heaps es at fin.empty removes.within)).1
        ∙ ap (λ x. finmap.insert x e.slot left) (sym (waiting_is heaps es))
        ∙ sym (ap (λ b. cond b (finmap.remove (waiting_in heaps es) e.slot) (finmap.insert (waiting_in heaps es) e.slot left)) (ne_eqb (fin.len left) 0 (λ z. omega (arith, size_left, some_there, more, z))))

    pub discounted_waits : (es' : List WaitingList) (unused' : List ℕ) → Discounts es es' unused unused' at → waiting_in heaps' es' ≡ with_waiting_list (waiting_in heaps es) e.slot left
    discounted_waits es' unused' ways =
        ⊎_elim (λ w. ap (waiting_in heaps') w.1 ∙ waits_gone w.0) (λ w. ap (waiting_in heaps') w.1 ∙ waits_less w.0) (ways no_entry)

    pub takes_out : (es' : List WaitingList) (unused' : List ℕ) → Discounts es es' unused unused' at →
        TakesOut (seen heaps es (limit - held)) (seen heaps' es' (limit - (held - 1))) k
    takes_out es' unused' ways =
        let waits : waiting_in heaps' es' ≡ with_waiting_list (waiting_in heaps es) e.slot (fin.remove (list_at (waiting_in heaps es) e.slot) k) =
        discounted_waits es' unused' ways ∙ ap (λ l. with_waiting_list (waiting_in heaps es) e.slot (fin.remove l k)) (sym slot_list) in
        let places : limit - (held - 1) ≡ (limit - held) + 1 = omega (arith, some_held, laid.within) in
        inr (e.slot, ap (λ l. fin.contains l k) slot_list ∙ removes.has no_entry, λ i. record { ready = (left_is i).main; waiting = waits i; spare = places i; tasks = (left_is i).tasks })
