-- A calendar's operations, whole.
use Rattle.std.proofs.Common.{◌≡◌, ℕ, zero, suc, ◌+◌, ◌-◌, ◌<◌, ◌≤◌, true, cond, ltb, ◌⊎◌, inl, inr, List, [], ◌∷◌, length, get_or, set, map, refl, sym, ap, ◌∙◌, subst, arith, ⊎_elim, Option, None, Some}
use Rattle.std.specs.Prelude.{sum_by, All}
use Rattle.std.proofs.lemmas.Bool.{cases_lt, cases_eq}
use Rattle.std.proofs.lemmas.Bool.Decides.{nat_tests}
use Rattle.std.proofs.lemmas.List.{length-set, get_or-set_same, get_or-set_other, get_or_default, get_or_past}
use Rattle.std.proofs.lemmas.List.Sums.{sum_by-cons}
use Rattle.std.specs.List.Sorted.{IsNonDecreasingBy}
use Rattle.std.specs.FinSet as fin
use Rattle.std.specs.FinSet.{len-empty}
use Rattle.std.specs.FinMap as finmap
use Rattle.pf_order.specs.Priority.{Priority, key_cmp}
use Rattle.pf_heap.specs.Keys as keys
use Rattle.pf_heap.specs.Keys.{Keys, Heaps, list_of, with_list, all_lists, EachTaskOnce}
use Rattle.pf_heap.specs.Digits.{digits}
use Rattle.pf_heap.proofs.Digits.{digits-mono}
use Rattle.pf_calendar.specs.declared.waiting_list.WaitingList.{WaitingList}
use Rattle.pf_calendar.specs.Queues.{Queues, list_at, list_in, key_count, Holds, IsQueued, NoneEmpty}
use Rattle.pf_calendar.specs.Queues as queues
use Rattle.pf_calendar.specs.Invariant.{lists_in, waiting_in, IsLaidOut, IsCalendar}
use Rattle.pf_calendar.specs.Steps.{SlotsRise}
use Rattle.pf_calendar.proofs.Naming.{no_entry, name_count-nil, length-lists, slot_at, list_at_place}
use Rattle.pf_calendar.proofs.Sets.{has_none, insert_cases, remove_in, some_has, len-remove_one}
use Rattle.pf_calendar.proofs.Apart.{Has, apart_by, apart_but}
use Rattle.pf_calendar.proofs.Slots.{rises}
use Rattle.pf_calendar.proofs.Maps.{waits_at, waits_from, sum_in, entries_in}
use Rattle.pf_calendar.proofs.Arranged.{entries_apart, list_cases, main_changed}

-- what contracts see
abbrev pub seen : Heaps → List WaitingList → ℕ → Queues
seen heaps es n = record { ready = heaps.main; waiting = waiting_in heaps es; spare = n; tasks = heaps.tasks }

pub waiting_is : (heaps : Heaps) (es : List WaitingList) → waiting_in heaps es ≡ finmap.from_sorted (lists_in heaps es)
unfolding waiting_in
waiting_is heaps es = refl

-- after a call: a calendar that stands for these queues
pub record IsCalendarAfter (heaps : Heaps) (entries : List WaitingList) (unused : List ℕ) (held limit room unused_room : ℕ) (queues : Queues) : Type 0 where
  pub calendar : IsCalendar heaps entries unused held limit room unused_room
  pub view : seen heaps entries (limit - held) ≡ queues

-- the same, as the code has the entries
pub entries_as : {heaps : Heaps} {es es' : List WaitingList} {unused : List ℕ} {held limit room unused_room : ℕ} {queues : Queues} → es' ≡ es →
    IsCalendarAfter heaps es unused held limit room unused_room queues → IsCalendarAfter heaps es' unused held limit room unused_room queues
entries_as {heaps} {es} {es'} {unused} {held} {limit} {room} {unused_room} {queues} e cal =
    subst (λ (l : List WaitingList). IsCalendarAfter heaps l unused held limit room unused_room queues) (sym e) cal

-- ---- no task has two keys, after a change of one list

has_listed : (lists : List Keys) (i : ℕ) (p : Priority) → Has lists i p → i < length lists
has_listed lists i p h =
    ⊎_elim (λ lt. lt) (λ le. absurd (has_none p (sym (ap (λ l. fin.contains l p) (get_or_past lists i fin.empty le)) ∙ h))) (cases_lt i (length lists))

has_set : (lists : List Keys) (at : ℕ) (new : Keys) (i : ℕ) (p : Priority) → Has (set lists at new) i p → ((i ≡ at) × (fin.contains new p ≡ true)) ⊎ (Has lists i p)
has_set lists at new i p h =
    ⊎_elim
    (λ e. let lt : at < length lists = omega (arith, has_listed (set lists at new) i p h, length-set lists at new, e) in
    inl (e, sym (ap (λ j. fin.contains (get_or (set lists at new) j fin.empty) p) e ∙ ap (λ l. fin.contains l p) (get_or-set_same lists at new fin.empty lt)) ∙ h))
    (λ ne. inr (sym (ap (λ l. fin.contains l p) (get_or-set_other lists at i new fin.empty ne)) ∙ h))
    (cases_eq i at)

pub apart_insert : (lists : List Keys) (at : ℕ) (key : Priority) → ¬ (keys.IsHeld lists key.task) → EachTaskOnce lists → EachTaskOnce (set lists at (fin.insert (get_or lists at fin.empty) key))
apart_insert lists at key absent apart =
    apart_but lists (set lists at (fin.insert (get_or lists at fin.empty) key)) at key
    (λ i p h. ⊎_elim
    (λ w. ⊎_elim (λ e. inr (w.0, e)) (λ was. inl (ap (λ j. fin.contains (get_or lists j fin.empty) p) w.0 ∙ was)) (insert_cases (get_or lists at fin.empty) key p w.1))
    (λ was. inl was)
    (has_set lists at (fin.insert (get_or lists at fin.empty) key) i p h))
    (λ i p h e. absent (record { list = i; key = p; listed = has_listed lists i p h; has = h; of_task = e }))
    apart

pub apart_part : (lists : List Keys) (at : ℕ) (new : Keys) → ((p : Priority) → fin.contains new p ≡ true → Has lists at p) → EachTaskOnce lists → EachTaskOnce (set lists at new)
apart_part lists at new part apart =
    apart_by lists (set lists at new) (λ i. i)
    (λ i p h. ⊎_elim
    (λ w. (i, ap (λ j. fin.contains (get_or lists j fin.empty) p) w.0 ∙ part p w.1, refl))
    (λ was. (i, was, refl))
    (has_set lists at new i p h))
    apart

module _ {heaps : Heaps} {es : List WaitingList} {unused : List ℕ} {held limit room unused_room : ℕ} (laid : IsLaidOut heaps es unused held limit room unused_room) where
  -- how many keys are held
  pub sum_counts : (l : List WaitingList) → All (λ e. e.count ≡ fin.len (list_of heaps e.heap)) l → sum_by (λ (e : WaitingList). fin.len (list_of heaps e.heap)) l ≡ sum_by (λ (e : WaitingList). e.count) l
  sum_counts [] h = refl
  sum_counts (e ∷ l) h =
      omega (
        arith,
        sum_by-cons (λ (x : WaitingList). fin.len (list_of heaps x.heap)) e l,
        sum_by-cons (λ (x : WaitingList). x.count) e l,
        h 0 no_entry (omega arith),
        sum_counts l (λ k d lt. h (suc k) d (omega (arith, lt))),
      )

  pub count_is : (n : ℕ) → key_count (seen heaps es n) ≡ fin.len heaps.main + sum_by (λ (e : WaitingList). e.count) es
  count_is n = ap (λ m. fin.len heaps.main + m) (sum_in heaps es laid.rise ∙ sum_counts es laid.counted)

  -- a key in a heap is ready, or it waits
  held_in : (n i : ℕ) (key : Priority) → i < length (all_lists heaps) → Has (all_lists heaps) i key → Holds (seen heaps es n) key
  held_in n zero key lt has = inl has
  held_in n (suc i) key lt has =
      ⊎_elim
      (λ m. inr (
        (get_or (lists_in heaps es) m.0 (0, fin.empty)).0,
        ap (λ x. fin.contains (list_at x (get_or (lists_in heaps es) m.0 (0, fin.empty)).0) key) (waiting_is heaps es)
            ∙ waits_from (lists_in heaps es) m.0 key laid.rise (omega (arith, m.1, length-lists heaps es))
            (ap (λ l. fin.contains l key) (list_at_place heaps es m.0 fin.empty m.1) ∙ ap (λ h. fin.contains (list_of heaps h) key) m.2 ∙ has),
      ))
      (λ none. absurd (has_none key (sym (ap (λ l. fin.contains l key) none) ∙ has)))
      (list_cases laid i (omega (arith, lt)))

  -- a task that isn't held has no key in a heap
  absent_below : (n task : ℕ) → ¬ (IsQueued (seen heaps es n) task) → ¬ (keys.IsHeld (all_lists heaps) task)
  absent_below n task free w = free (record { key = w.key; has = held_in n w.list w.key w.listed w.has; of_task = w.of_task })

  module _ {n : ℕ} {now : Queues} (view : seen heaps es n ≡ now) where
    pub absent_from : (task : ℕ) → ¬ (IsQueued now task) → ¬ (keys.IsHeld (all_lists heaps) task)
    absent_from task absent = absent_below n task (subst (λ (q : Queues). ¬ (IsQueued q task)) (sym view) absent)

    -- the keys that are ready are held, and those that wait
    pub ready_digits : digits (fin.len heaps.main) ≤ digits (key_count now)
    ready_digits = digits-mono (fin.len heaps.main) (key_count now) (omega (arith, ap key_count view, count_is n))

    pub waiting_within : sum_by (λ (e : WaitingList). fin.len (list_of heaps e.heap)) es ≤ key_count now
    waiting_within = omega (arith, ap key_count view, count_is n, sum_counts es laid.counted)

  pub some_free : {now : Queues} → seen heaps es (limit - held) ≡ now → 1 ≤ now.spare → held < limit
  some_free view some = omega (arith, some, ap (λ (q : Queues). q.spare) view)

  -- ---- the first ready key is taken out

  popped_laid : (heaps' : Heaps) (key : Priority) → fin.contains heaps.main key ≡ true →
      heaps' ≡ record heaps { main = fin.remove heaps.main key; spare = heaps.spare + 1 } →
      (1 ≤ held) × IsLaidOut heaps' es unused (held - 1) limit room unused_room
  popped_laid heaps' key has is =
      let some : 1 ≤ fin.len heaps.main = some_has heaps.main key has in
      let less : fin.len (fin.remove heaps.main key) ≡ fin.len heaps.main - 1 = len-remove_one heaps.main key has in (
        omega (arith, some, laid.held_is),
        main_changed laid heaps' (held - 1) (ap (λ h. h.lists) is)
            (subst EachTaskOnce (sym (ap (λ h. all_lists h) is)) (apart_part (all_lists heaps) 0 (fin.remove heaps.main key) (λ p h. remove_in heaps.main key p h) laid.apart))
            (omega (arith, some, less, laid.held_is, ap (λ h. fin.len h.main) is)) (omega (arith, laid.within))
            (omega (arith, some, laid.held_is, laid.spare, ap (λ h. h.spare) is)),
      )

  popped_seen : (heaps' : Heaps) (key : Priority) → fin.contains heaps.main key ≡ true →
      heaps' ≡ record heaps { main = fin.remove heaps.main key; spare = heaps.spare + 1 } →
      seen heaps' es (limit - (held - 1)) ≡ record (seen heaps es (limit - held)) { ready = fin.remove heaps.main key; spare = (limit - held) + 1 }
  popped_seen heaps' key has is =
      let waits : waiting_in heaps' es ≡ waiting_in heaps es =
      waiting_is heaps' es ∙ ap (λ h. finmap.from_sorted (lists_in h es)) is ∙ sym (waiting_is heaps es) in
      let places : limit - (held - 1) ≡ (limit - held) + 1 = omega (arith, some_has heaps.main key has, laid.held_is, laid.within) in
      λ i. record { ready = (is i).main; waiting = waits i; spare = places i; tasks = (is i).tasks }

pub popped : {heaps heaps' : Heaps} {es : List WaitingList} {unused : List ℕ} {held limit room unused_room : ℕ} {now : Queues} →
    IsCalendar heaps es unused held limit room unused_room → seen heaps es (limit - held) ≡ now → (key : Priority) → fin.contains heaps.main key ≡ true →
    heaps' ≡ record heaps { main = fin.remove heaps.main key; spare = heaps.spare + 1 } →
    (1 ≤ held) × IsCalendarAfter heaps' es unused (held - 1) limit room unused_room (record now { ready = fin.remove now.ready key; spare = now.spare + 1 })
popped {heaps' = heaps'} cal view key has is =
    let p = popped_laid cal.laid heaps' key has is in (
      p.0,
      record {
        calendar = record { laid = p.1; some = cal.some };
        view = popped_seen cal.laid heaps' key has is ∙ ap (λ (q : Queues). record q { ready = fin.remove q.ready key; spare = q.spare + 1 }) view;
      },
    )

-- ---- how many keys are held

pub held_seen : {heaps : Heaps} {es : List WaitingList} {unused : List ℕ} {held limit room unused_room : ℕ} {now : Queues} (n : ℕ) →
    IsLaidOut heaps es unused held limit room unused_room → seen heaps es n ≡ now → key_count now ≡ held
held_seen n laid view = sym (ap key_count view) ∙ count_is laid n ∙ sym laid.held_is

-- one fewer
pub one_fewer : {heaps heaps' : Heaps} {es es' : List WaitingList} {unused unused' : List ℕ} {held limit room unused_room room' unused_room' : ℕ} {old new : Queues} (n m : ℕ) →
    IsLaidOut heaps es unused held limit room unused_room → seen heaps es n ≡ old → 1 ≤ held →
    IsLaidOut heaps' es' unused' (held - 1) limit room' unused_room' → seen heaps' es' m ≡ new → key_count new + 1 ≡ key_count old
one_fewer {held = held} n m laid view some laid' view' =
    let back : (held - 1) + 1 ≡ held = omega (arith, some) in
    ap (λ k. k + 1) (held_seen m laid' view') ∙ back ∙ sym (held_seen n laid view)

-- ---- a calendar that holds nothing

-- an arena's heaps at the start
abbrev pub no_heaps : Heaps
no_heaps = record { main = fin.empty; lists = []; spare = 0; tasks = 0 }

pub new_calendar : (heaps : Heaps) (es : List WaitingList) (unused : List ℕ) (room unused_room : ℕ) → heaps ≡ no_heaps → es ≡ [] → unused ≡ [] →
    IsCalendar heaps es unused 0 0 room unused_room
new_calendar heaps es unused room unused_room none no_entries no_names =
    subst (λ (h : Heaps). IsCalendar h es unused 0 0 room unused_room) (sym none)
    (subst (λ (l : List WaitingList). IsCalendar no_heaps l unused 0 0 room unused_room) (sym no_entries)
    (subst (λ (l : List ℕ). IsCalendar no_heaps [] l 0 0 room unused_room) (sym no_names)
    (record {
      laid = record {
        rise = refl;
        named = λ h. name_count-nil h ∙ no_name h;
        many = refl;
        small = omega arith;
        empty = λ k d lt. absurd (omega (arith, lt));
        counted = λ k d lt. absurd (omega (arith, lt));
        apart = λ i j p q hp hq same. absurd (has_none p (sym (ap (λ l. fin.contains l p) (all_empty i)) ∙ hp));
        held_is = omega (arith, len-empty key_cmp);
        within = omega arith;
        enough = omega arith;
        spare = omega arith;
        room_is = omega arith;
        unused_room_is = omega arith;
      };
      some = λ k d lt. absurd (omega (arith, lt));
    }))) where
      no_name : (h : ℕ) → 0 ≡ cond {A = ℕ} (ltb h 0) 1 0
      no_name h = grind (arith, nat_tests)

      all_empty : (i : ℕ) → get_or {A = Keys} (fin.empty ∷ []) i fin.empty ≡ fin.empty
      all_empty zero = refl
      all_empty (suc i) = refl

pub new_seen : (heaps : Heaps) (es : List WaitingList) → heaps ≡ no_heaps → es ≡ [] →
    seen heaps es 0 ≡ record { ready = fin.empty; waiting = finmap.empty; spare = 0; tasks = 0 }
new_seen heaps es none no_entries =
    let waits : waiting_in heaps es ≡ finmap.empty =
    ap (waiting_in heaps) no_entries ∙ waiting_is heaps [] ∙ finmap.empty_of_len (finmap.from_sorted []) (finmap.len-entries (finmap.from_sorted []) ∙ ap length (entries_in [] refl)) in
    λ i. record { ready = (none i).main; waiting = waits i; spare = 0; tasks = (none i).tasks }

each_one : (es : List WaitingList) → All (λ e. 1 ≤ e.count) es → length es ≤ sum_by (λ (e : WaitingList). e.count) es
each_one [] h = omega arith
each_one (e ∷ es) h =
    omega (arith, sum_by-cons (λ (x : WaitingList). x.count) e es, h 0 no_entry (omega arith), each_one es (λ k d lt. h (suc k) d (omega (arith, lt))))

-- where a key can be put there is an unused heap
pub has_unused : {heaps : Heaps} {es : List WaitingList} {unused : List ℕ} {held limit room unused_room : ℕ} → IsCalendar heaps es unused held limit room unused_room →
    held < limit → 1 ≤ length unused
has_unused {es = es} cal free = omega (arith, free, each_one es cal.some, cal.laid.held_is, cal.laid.enough)

pub slots_apart : {heaps : Heaps} {es : List WaitingList} {unused : List ℕ} {held limit room unused_room : ℕ} → IsLaidOut heaps es unused held limit room unused_room →
    SlotsRise es
slots_apart {heaps} {es = es} laid i j d below lt =
    let li : i < length es = omega (arith, below, lt) in
    let here : (get_or es i d).slot ≡ (get_or (lists_in heaps es) i (0, fin.empty)).0 = ap (λ (x : WaitingList). x.slot) (get_or_default es i d no_entry li) ∙ sym (slot_at heaps es i fin.empty li) in
    let there : (get_or es j d).slot ≡ (get_or (lists_in heaps es) j (0, fin.empty)).0 = ap (λ (x : WaitingList). x.slot) (get_or_default es j d no_entry lt) ∙ sym (slot_at heaps es j fin.empty lt) in
    omega (arith, here, there, rises (lists_in heaps es) i j (0, fin.empty) laid.rise below (omega (arith, lt, length-lists heaps es)))

pub slots_rise : {heaps : Heaps} {es : List WaitingList} {unused : List ℕ} {held limit room unused_room : ℕ} → IsLaidOut heaps es unused held limit room unused_room →
    IsNonDecreasingBy (λ (e : WaitingList). e.slot) es
slots_rise {es = es} laid i j d le lt =
    ⊎_elim
    (λ below. omega (arith, slots_apart laid i j d below lt))
    (λ ge. omega (arith, ap (λ k. (get_or es k d).slot) (let s : i ≡ j = omega (arith, le, ge) in s)))
    (cases_lt i j)

-- under the room that its Vecs have now
pub with_room : {heaps : Heaps} {es : List WaitingList} {unused : List ℕ} {held limit : ℕ} (room unused_room room' unused_room' : ℕ) → room' ≡ room → unused_room' ≡ unused_room →
    IsCalendar heaps es unused held limit room unused_room → IsCalendar heaps es unused held limit room' unused_room'
with_room {heaps} {es} {unused} {held} {limit} room unused_room room' unused_room' e f cal =
    subst (λ (n : ℕ). IsCalendar heaps es unused held limit n unused_room') (sym e)
    (subst (λ (n : ℕ). IsCalendar heaps es unused held limit room n) (sym f) cal)

-- ---- places for more tasks

pub tasks_seen : (heaps heaps' : Heaps) (es : List WaitingList) (m n : ℕ) → heaps' ≡ record heaps { tasks = n } →
    seen heaps' es m ≡ record (seen heaps es m) { tasks = n }
tasks_seen heaps heaps' es m n is =
    let waits : waiting_in heaps' es ≡ waiting_in heaps es =
    ap (λ h. waiting_in h es) is ∙ waiting_is (record heaps { tasks = n }) es ∙ sym (waiting_is heaps es) in
    λ i. record { ready = (is i).main; waiting = waits i; spare = m; tasks = (is i).tasks }

-- ---- what contracts say of every calendar

counted_some : (heaps : Heaps) (es : List WaitingList) → All (λ e. e.count ≡ fin.len (list_of heaps e.heap)) es → All (λ e. 1 ≤ e.count) es →
    All (λ keys. 1 ≤ fin.len keys) (map (λ (e : ℕ × Keys). e.1) (lists_in heaps es))
counted_some heaps [] counted some k d lt = absurd (omega (arith, lt))
counted_some heaps (e ∷ es) counted some zero d lt = omega (arith, counted 0 no_entry (omega arith), some 0 no_entry (omega arith))
counted_some heaps (e ∷ es) counted some (suc k) d lt =
    counted_some heaps es (λ j x h. counted (suc j) x (omega (arith, h))) (λ j x h. some (suc j) x (omega (arith, h))) k d (omega (arith, lt))

module _ {heaps : Heaps} {es : List WaitingList} {unused : List ℕ} {held limit room unused_room : ℕ} (cal : IsCalendar heaps es unused held limit room unused_room) where
  pub none_empty : NoneEmpty (waiting_in heaps es)
  none_empty =
      subst (λ (l : List (ℕ × Keys)). All (λ keys. 1 ≤ fin.len keys) (map (λ (e : ℕ × Keys). e.1) l))
      (sym (ap finmap.entries (waiting_is heaps es) ∙ entries_in (lists_in heaps es) cal.laid.rise))
      (counted_some heaps es cal.laid.counted cal.some)

  -- where a list is among all: that of the ready keys is the first, and then come those of the entries for the slot
  IsIn : Option ℕ → ℕ → Type 0
  IsIn None h = h ≡ 0
  IsIn (Some s) h = (k : ℕ) × (k < length es) × ((get_or es k no_entry).slot ≡ s) × (h ≡ suc (get_or es k no_entry).heap)

  place_of : (n : ℕ) (x : Option ℕ) (q : Priority) → fin.contains (list_in (seen heaps es n) x) q ≡ true → (h : ℕ) × IsIn x h × Has (all_lists heaps) h q
  unfolding IsIn
  place_of n None q has = (0, refl, has)
  place_of n (Some s) q has =
      let at = waits_at (lists_in heaps es) s q cal.laid.rise (sym (ap (λ x. fin.contains (list_at x s) q) (waiting_is heaps es)) ∙ has) in
      let lt : at.0 < length es = omega (arith, at.1, length-lists heaps es) in (
        suc (get_or es at.0 no_entry).heap,
        (at.0, lt, sym (slot_at heaps es at.0 fin.empty lt) ∙ at.2, refl),
        sym (ap (λ l. fin.contains l q) (list_at_place heaps es at.0 fin.empty lt)) ∙ at.3,
      )

  same_list : (x y : Option ℕ) (h : ℕ) → IsIn x h → IsIn y h → x ≡ y
  unfolding IsIn
  same_list None None h hx hy = refl
  same_list None (Some s) h hx hy = absurd (omega (arith, hx, hy.3))
  same_list (Some s) None h hx hy = absurd (omega (arith, hy, hx.3))
  same_list (Some s) (Some t) h hx hy =
      ⊎_elim
      (λ e. ap Some (sym hx.2 ∙ ap (λ k. (get_or es k no_entry).slot) e ∙ hy.2))
      (λ ne. absurd (entries_apart cal.laid hy.0 hx.0 hy.1 hx.1 ne (omega (arith, hx.3, hy.3))))
      (cases_eq hx.0 hy.0)

  pub each_task_once : (n : ℕ) → queues.EachTaskOnce (seen heaps es n)
  each_task_once n x y k l hx hy task =
      let a = place_of n x k hx in
      let b = place_of n y l hy in
      let m = cal.laid.apart a.0 b.0 k l a.2 b.2 task in
      (same_list x y a.0 a.1 (subst (IsIn y) (sym m.0) b.1), m.1)
