-- The worked examples of calendars: the lists that wait are entries in the order of their slots.
use Rattle.std.proofs.Common.{◌≡◌, ◌≢◌, ℕ, zero, suc, ◌+◌, ◌<◌, true, Option, None, Some, cond, [], ◌∷◌, length, get_or, map, inl, inr, refl, sym, ap, ◌∙◌, arith, ⊎_elim}
use Rattle.std.specs.Prelude.{nat_lt, nat_le, ◌==◌, unwrap_or}
use Rattle.std.specs.Ordering.{nat_cmp}
use Rattle.std.specs.FinSet as set
use Rattle.std.specs.FinMap as fin
use Rattle.std.specs.FinMap.{get-empty, empty_of_len, len-entries}
use Rattle.std.proofs.lemmas.Bool.{cases_eq}
use Rattle.std.specs.FinMap.Entries.{put, find}
use Rattle.pf_window.specs.Window.{deadline_of, bit_of}
use Rattle.pf_window.specs.Group.{group_of}
use Rattle.pf_order.specs.Priority.{Priority, key_cmp, priority_cmp}
use Rattle.pf_heap.specs.Keys.{Keys}
use Rattle.pf_calendar.specs.Queues.{Waiting, Holds, IsQueued, TakesOut, list_at, until, later, due, all_of, with_waiting_list}
use Rattle.pf_calendar.proofs.Maps.{Keyed, in_order, entries_in, put_in, retained_in, list_found, none_found}
use Rattle.pf_calendar.proofs.Leaving.{remove_in_map}
use Rattle.pf_calendar.proofs.Sets.{has_none}
use Rattle.pf_laws.specs.Examples.Order.{key_a, key_b, key_c}
use Rattle.pf_laws.specs.Examples.Calendars.{empty, put_at, filled, advanced, popped, taken, WorkedCalendar}
use Rattle.pf_laws.proofs.ExamplesLemmas.Sets.{one_listed, union_listed, contains-listed, rest_listed, come_out_of}

-- the list of one key
abbrev one : Priority → Keys
one key = set.from_list (key ∷ [])

no_entries : fin.from_sorted {R = nat_cmp} [] ≡ fin.empty {X = Keys}
no_entries = empty_of_len _ (len-entries _ ∙ ap length (entries_in [] refl))

-- a key is put at a slot that has none
put_new : (w : Waiting) (es es' : Keyed) (s : ℕ) (key : Priority) → w ≡ fin.from_sorted es → in_order es ≡ true → find nat_cmp s es ≡ None →
    es' ≡ put nat_cmp s (one key) es → fin.insert w s (set.insert (list_at w s) key) ≡ fin.from_sorted es'
put_new w es es' s key is ok none put_is =
    let new : list_at w s ≡ set.empty = ap (λ x. list_at x s) is ∙ list_found es s None ok none in
    ap (λ keys. fin.insert w s (set.insert keys key)) new
    ∙ ap (λ x. fin.insert x s (one key)) is
    ∙ sym (put_in es es' s (one key) ok put_is).1

abbrev with_b : Keyed
with_b = (2, one key_b) ∷ []

abbrev with_c : Keyed
with_c = (0, one key_c) ∷ with_b

abbrev with_a : Keyed
with_a = (5, one key_a) ∷ []

abbrev all_three : Keyed
all_three = (0, one key_c) ∷ (2, one key_b) ∷ with_a

b_is : (put_at 2 key_b empty).waiting ≡ fin.from_sorted with_b
b_is = put_new fin.empty [] with_b 2 key_b (sym no_entries) refl refl refl

c_is : (put_at 0 key_c (put_at 2 key_b empty)).waiting ≡ fin.from_sorted with_c
c_is = put_new (put_at 2 key_b empty).waiting with_b with_c 0 key_c b_is refl refl refl

filled_is : filled.waiting ≡ fin.from_sorted all_three
filled_is = put_new (put_at 0 key_c (put_at 2 key_b empty)).waiting with_c all_three 5 key_a c_is refl refl refl

-- slot 2
until_is : until 2 filled.waiting ≡ fin.from_sorted with_c
until_is = ap (until 2) filled_is ∙ sym (retained_in all_three with_c (λ s. nat_le s 2) refl refl).1

waiting_is : advanced.waiting ≡ fin.from_sorted with_a
waiting_is = ap (later 2) filled_is ∙ sym (retained_in all_three with_a (λ s. nat_lt 2 s) refl refl).1

due_is : due 2 filled.waiting ≡ set.from_list (key_c ∷ key_b ∷ [])
due_is =
    ap (λ w. all_of (fin.values w)) until_is
    ∙ ap (λ es. all_of (map (λ e. e.1) es)) (entries_in with_c refl)
    ∙ ap (set.union (one key_c)) (union_listed (key_b ∷ []) [])
    ∙ union_listed (key_c ∷ []) (key_b ∷ [])

ready_is : advanced.ready ≡ set.from_list (key_c ∷ key_b ∷ [])
ready_is = ap (set.union set.empty) due_is ∙ union_listed [] (key_c ∷ key_b ∷ [])

a_waits : list_at advanced.waiting 5 ≡ one key_a
a_waits = ap (λ w. list_at w 5) waiting_is ∙ list_found with_a 5 (Some (one key_a)) refl refl

apart : (s : ℕ) → s ≢ 5 → (k : ℕ) → k < 1 → (get_or with_a k (0, set.empty)).0 ≢ s
apart s other zero within is = other (sym is)
apart s other (suc k) within is = absurd (omega arith)

no_other : (s : ℕ) → s ≢ 5 → list_at advanced.waiting s ≡ set.empty
no_other s other = ap (λ w. list_at w s) waiting_is ∙ list_found with_a s None refl (none_found with_a s (apart s other))

-- after C was popped
popped_is : popped.ready ≡ one key_b
unfolding deadline_of bit_of group_of priority_cmp
popped_is = ap (λ s. set.remove s key_c) ready_is ∙ rest_listed key_c (key_b ∷ []) refl

-- A is taken out
emptied : with_waiting_list advanced.waiting 5 (set.remove (list_at advanced.waiting 5) key_a) ≡ fin.empty
emptied =
    let none : set.remove (list_at advanced.waiting 5) key_a ≡ set.empty = ap (λ s. set.remove s key_a) a_waits ∙ rest_listed key_a [] refl in
    ap (with_waiting_list advanced.waiting 5) none
    ∙ ap (λ n. cond (n == 0) (fin.remove advanced.waiting 5) (fin.insert advanced.waiting 5 set.empty)) (set.len-empty key_cmp)
    ∙ ap (λ w. fin.remove w 5) waiting_is
    ∙ sym (remove_in_map with_a 0 5 refl (omega arith) refl).1
    ∙ no_entries

a_contained : set.contains (list_at popped.waiting 5) key_a ≡ true
unfolding deadline_of bit_of group_of priority_cmp
a_contained = ap (λ s. set.contains s key_a) a_waits ∙ contains-listed (key_a ∷ []) key_a

takes_out : TakesOut popped taken key_a
takes_out = inr (5, a_contained, ap (λ w. record popped { waiting = w; spare = popped.spare + 1 }) (sym emptied))

-- B is of task 2
not_ready : (q : Priority) → set.contains popped.ready q ≡ true → q.task ≢ 1
unfolding deadline_of bit_of group_of priority_cmp
not_ready q ready of_task =
    let is : q ≡ key_b = one_listed key_b q (sym (ap (λ s. set.contains s q) popped_is) ∙ ready) in
    absurd (omega (arith, of_task, ap (λ (k : Priority). k.task) is))

only_a : (q : Priority) → Holds popped q → q.task ≡ 1 → q ≡ key_a
only_a q (inl ready) of_task = absurd (not_ready q ready of_task)
only_a q (inr (s, waits)) of_task =
    ⊎_elim
    (λ at_five. one_listed key_a q (sym (ap (λ (keys : Keys). set.contains keys q) (ap (list_at popped.waiting) at_five ∙ a_waits)) ∙ waits))
    (λ other. absurd (has_none q (sym (ap (λ (keys : Keys). set.contains keys q) (no_other s other)) ∙ waits)))
    (cases_eq s 5)

-- none of task 1 is left
none_left : (q : Priority) → Holds taken q → q.task ≢ 1
none_left q (inl ready) = not_ready q ready
none_left q (inr (s, waits)) =
    let none : list_at fin.empty s ≡ set.empty = ap (λ (o : Option Keys). unwrap_or o set.empty) (get-empty nat_cmp s) in
    absurd (has_none q (sym (ap (λ (keys : Keys). set.contains keys q) none) ∙ waits))

pub worked_calendar : WorkedCalendar
unfolding deadline_of bit_of group_of priority_cmp
worked_calendar = record {
  ready = come_out_of advanced.ready (key_c ∷ key_b ∷ []) ready_is refl;
  waiting = come_out_of (list_at advanced.waiting 5) (key_a ∷ []) a_waits refl;
  no_other = no_other;
  left = come_out_of popped.ready (key_b ∷ []) popped_is refl;
  of_task = refl;
  only_a = only_a;
  takes_out = takes_out;
  none_left = λ (queued : IsQueued taken 1). none_left queued.key queued.has queued.of_task;
  last = come_out_of taken.ready (key_b ∷ []) popped_is refl;
}
