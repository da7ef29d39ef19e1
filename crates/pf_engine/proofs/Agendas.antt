-- What each step of an engine makes of its agenda.
use Rattle.std.proofs.Common.{◌≡◌, ◌≢◌, ℕ, ◌+◌, ◌-◌, ◌<◌, ◌≤◌, Bool, true, false, not, ◌==◌, cond, max, ◌⊎◌, inl, inr, Option, Some, None, List, [], ◌∷◌, ◌++◌, length, find, map, get_or, option_map, Contains, All, refl, sym, ap, ◌∙◌, subst, arith, ⊎_elim}
use Rattle.std.specs.Prelude.{MatchOption, IfSome, sum_by, unwrap_or, AllPairs, drop, ◌^◌}
use Rattle.std.proofs.lemmas.Bool.{cases_eq, eq-eqb, ne_eqb, eqb-true}
use Rattle.std.proofs.lemmas.List.{length-map, length_push, length-drop, get_or-drop, get_or_default}
use Rattle.std.proofs.lemmas.List.Elements.{All-nil, All-cons, All-head, All-tail, All-push, All-map, All-weaker, All-contains, Contains-get_or, Contains-append_left, Contains-push, Contains-push_cases}
use Rattle.std.proofs.lemmas.List.Filters.{length-filter_both}
use Rattle.std.proofs.lemmas.List.Sums.{length-filter, get_or-le-sum_by}
use Rattle.std.specs.FinSet as set
use Rattle.std.specs.FinMap as fin
use Rattle.std.specs.FinMap.{get-empty}
use Rattle.std.specs.Ordering.{nat_cmp}
use Rattle.pf_order.specs.Priority.{Priority, key_cmp}
use Rattle.pf_heap.specs.Keys.{Keys}
use Rattle.pf_calendar.proofs.Sets.{has_none}
use Rattle.pf_calendar.specs.Queues.{Queues, Waiting, list_at, IsQueued, TakesOut, EachTaskOnce, NoneEmpty, key_count}
use Rattle.pf_admit.specs.Member.{IsMember}
use Rattle.pf_admit.specs.declared.member.Member.{Member}
use Rattle.pf_run.specs.Inside.{eligible_from, next_key}
use Rattle.pf_run.proofs.Counting.{count_by-cons}
use Rattle.pf_run.proofs.Containing.{contains_none, contains_head, contains_tail, contains_cases, from_filter, in_filter}
use Rattle.pf_engine.specs.Fits.{KeptTask}
use Rattle.pf_engine.specs.Kept.{member_in, changed_task, changed_tasks, other_tasks, member_after_run}
use Rattle.pf_engine.specs.Engines.{tasks_of, IsInside}
use Rattle.pf_engine.specs.Agenda.{IsNextOf, HasNext, IsOther, IsAgenda, with_put, TakesFirst}
use Rattle.pf_engine.proofs.Places.{has_no_task, no_member}
use Rattle.pf_engine.proofs.NextKeys.{Differ, key_for, IsAdvanced, next_same, next_seen, not_queued, next_put, next_taken, next_advanced}
use Rattle.pf_engine.proofs.Chosen.{next_chosen}
use Rattle.pf_engine.proofs.Held.{Has}

-- ---- the tasks

-- 1 for a test that passes
abbrev passed : Bool → ℕ
passed b = cond b 1 0

pub some_of : (tasks : List KeptTask) (k : KeptTask) → Contains tasks k → 1 ≤ tasks_of k.task tasks
some_of tasks k at =
    let own : passed ((get_or tasks at.0 k).task == k.task) ≡ 1 = ap passed (eq-eqb _ _ (ap (λ (x : KeptTask). x.task) at.2)) in
    omega (arith, get_or-le-sum_by (λ (x : KeptTask). cond (x.task == k.task) 1 0) tasks at.0 k at.1, own)

pub differ_tasks : (tasks : List KeptTask) → ((task : ℕ) → tasks_of task tasks ≤ 1) → Differ (Contains tasks)
differ_tasks [] once x y at_x at_y same = absurd (contains_none x at_x)
differ_tasks (k ∷ ks) once x y at_x at_y same =
    let counted = count_by-cons (λ (q : KeptTask). q.task == k.task) k ks in
    let own : passed (k.task == k.task) ≡ 1 = ap passed (eq-eqb k.task k.task refl) in
    let alone : (z : KeptTask) → Contains ks z → k.task ≡ z.task → ⊥ = λ z at e.
    let one : 1 ≤ tasks_of k.task ks = subst (λ t. 1 ≤ tasks_of t ks) (sym e) (some_of ks z at) in
    omega (arith, counted, own, one, once k.task) in
    ⊎_elim
    (λ here_x. ⊎_elim
    (λ here_y. sym here_x ∙ here_y)
    (λ later_y. absurd (alone y later_y (ap (λ (z : KeptTask). z.task) here_x ∙ same)))
    (contains_cases k ks y at_y))
    (λ later_x. ⊎_elim
    (λ here_y. absurd (alone x later_x (ap (λ (z : KeptTask). z.task) here_y ∙ sym same)))
    (λ later_y. differ_tasks ks
    (λ task. omega (arith, once task, count_by-cons (λ (q : KeptTask). q.task == task) k ks)) x y later_x later_y same)
    (contains_cases k ks y at_y))
    (contains_cases k ks x at_x)

found_cond : (b : Bool) (k : KeptTask) (o : Option KeptTask) (m : Member) (P : Type 0) → (b ≡ true → k.member ≡ m → P) →
    (option_map (λ (q : KeptTask). q.member) o ≡ Some m → P) → option_map (λ (q : KeptTask). q.member) (cond b (Some k) o) ≡ Some m → P
found_cond true k o m P here later e = here refl (cc)
found_cond false k o m P here later e = later e

pub found_in : (tasks : List KeptTask) (task : ℕ) (m : Member) → member_in tasks task ≡ Some m → Contains tasks (record { task = task; member = m })
found_in [] task m e = absurd (cc)
found_in (k ∷ ks) task m e =
    let new : KeptTask = record { task = task; member = m } in
    found_cond (k.task == task) k (find (λ q. q.task == task) ks) m (Contains (k ∷ ks) new)
    (λ here is.
    let same : k ≡ new = λ i. record { task = eqb-true k.task task here i; member = is i } in
    subst (Contains (k ∷ ks)) same (contains_head k ks))
    (λ rest. contains_tail k ks new (found_in ks task m rest)) e

task_kept : (b : Bool) (f : Member → Member) (k : KeptTask) → (cond b (record { task = k.task; member = f k.member }) k).task ≡ k.task
task_kept true f k = refl
task_kept false f k = refl

same_task : (task : ℕ) (f : Member → Member) (k : KeptTask) → (changed_task task f k).task ≡ k.task
same_task task f k = task_kept (k.task == task) f k

is_unchanged : (task : ℕ) (f : Member → Member) (k : KeptTask) → task ≢ k.task → changed_task task f k ≡ k
is_unchanged task f k ne = ap (λ b. cond b (record { task = k.task; member = f k.member }) k) (ne_eqb k.task task (λ e. ne (sym e)))

from_map : (g : KeptTask → KeptTask) (tasks : List KeptTask) (x : KeptTask) → Contains (map g tasks) x → (k : KeptTask) × Contains tasks k × (g k ≡ x)
from_map g [] x at = absurd (contains_none x at)
from_map g (k ∷ ks) x at = ⊎_elim
    (λ e. (k, contains_head k ks, e))
    (λ later. let r = from_map g ks x later in (r.0, contains_tail k ks r.0 r.1, r.2))
    (contains_cases (g k) (map g ks) x at)

in_map : (g : KeptTask → KeptTask) (tasks : List KeptTask) (k : KeptTask) → Contains tasks k → Contains (map g tasks) (g k)
in_map g [] k at = absurd (contains_none k at)
in_map g (x ∷ xs) k at = ⊎_elim
    (λ e. subst (λ y. Contains (g x ∷ map g xs) (g y)) e (contains_head (g x) (map g xs)))
    (λ later. contains_tail (g x) (map g xs) (g k) (in_map g xs k later))
    (contains_cases x xs k at)

-- one task is changed, and the others are there as they were
module _ (tasks : List KeptTask) (task : ℕ) (f : Member → Member) (m : Member) (differ : Differ (Contains tasks)) (found : member_in (changed_tasks task f tasks) task ≡ Some m) where
  abbrev new : KeptTask
  new = record { task = task; member = m }

  pub changed_other : (k : KeptTask) → Contains tasks k → task ≢ k.task → Contains (changed_tasks task f tasks) k
  changed_other k at ne = subst (Contains (changed_tasks task f tasks)) (is_unchanged task f k ne) (in_map (changed_task task f) tasks k at)

  pub changed_new : Contains (changed_tasks task f tasks) new
  changed_new = found_in (changed_tasks task f tasks) task m found

  -- the new one comes from the one of its number
  comes_from : (y : KeptTask) → Contains tasks y → y.task ≡ task → changed_task task f y ≡ new
  comes_from y at e =
      let r = from_map (changed_task task f) tasks new changed_new in
      let number : r.0.task ≡ task = sym (same_task task f r.0) ∙ ap (λ (x : KeptTask). x.task) r.2 in
      ap (changed_task task f) (differ y r.0 at r.1 (e ∙ sym number)) ∙ r.2

  pub changed_cases : (k : KeptTask) → Contains (changed_tasks task f tasks) k → (Contains tasks k × (task ≢ k.task)) ⊎ (k ≡ new)
  changed_cases k at =
      let r = from_map (changed_task task f) tasks k at in
      ⊎_elim
      (λ e. inr (sym r.2 ∙ comes_from r.0 r.1 e))
      (λ ne.
      let stays : r.0 ≡ k = sym (is_unchanged task f r.0 (λ e. ne (sym e))) ∙ r.2 in
      inl (subst (Contains tasks) stays r.1, λ e. ne (ap (λ (x : KeptTask). x.task) stays ∙ sym e)))
      (cases_eq r.0.task task)

-- ---- the agenda

nothing_waits : (s : ℕ) (x : Priority) → set.contains (list_at fin.empty s) x ≡ true → ⊥
nothing_waits s x h = has_none x (sym (ap (λ (o : Option Keys). set.contains (unwrap_or o set.empty) x) (get-empty nat_cmp s)) ∙ h)

no_values : (w : Waiting) → w ≡ fin.empty → fin.values w ≡ []
no_values w e = none_left (fin.values w) (length-map (fin.entries w) (λ x. x.1) ∙ sym (fin.len-entries w) ∙ ap fin.len e ∙ fin.len-empty nat_cmp Keys) where
  none_left : (l : List Keys) → length l ≡ 0 → l ≡ []
  none_left [] e = refl
  none_left (x ∷ xs) e = absurd (omega arith)

pub no_keys : key_count (record { ready = set.empty; waiting = fin.empty; spare = 0; tasks = 0 }) + 0 ≡ 0
no_keys = omega (arith, set.len-empty key_cmp, ap (sum_by set.len) (no_values fin.empty refl))

no_lists : NoneEmpty fin.empty
no_lists = subst (All (λ (keys : Keys). 1 ≤ set.len keys)) (sym (no_values fin.empty refl)) (All-nil (λ (keys : Keys). 1 ≤ set.len keys))

others : (tasks : List KeptTask) (k : KeptTask) → Contains tasks k → IsOther tasks [] k
others tasks k at = record { among = at; apart = All-nil (λ (q : Priority). q.task ≢ k.task) }

pub next_all : {q : Queues} {now : ℕ} {tasks : List KeptTask} → IsAgenda q now tasks [] → HasNext q now (Contains tasks)
next_all {q} {now} {tasks} a = next_same q now (IsOther tasks []) (Contains tasks) (λ k o. o.among) (others tasks) a.next

pub next_none_away : {q : Queues} {now : ℕ} {tasks : List KeptTask} → HasNext q now (Contains tasks) → HasNext q now (IsOther tasks [])
next_none_away {q} {now} {tasks} n = next_same q now (Contains tasks) (IsOther tasks []) (others tasks) (λ k o. o.among) n

-- of no task
pub agenda_none : (q : Queues) (now : ℕ) (tasks : List KeptTask) → q ≡ record { ready = set.empty; waiting = fin.empty; spare = 0; tasks = 0 } → tasks ≡ [] →
    IsAgenda q now tasks []
agenda_none q now tasks is none = subst (λ x. IsAgenda x now tasks []) (sym is) (subst (λ ts. IsAgenda (record { ready = set.empty; waiting = fin.empty; spare = 0; tasks = 0 }) now ts []) (sym none) (record {
  next = record { only = nothing_at; each = λ k o. absurd (contains_none k o.among) };
  count = no_keys;
  some = no_lists;
  numbers = All-nil (λ (k : KeptTask). k.task < 0);
  room = omega arith;
})) where
  nothing_at : (place : Option ℕ) (x : Priority) → Has (record { ready = set.empty; waiting = fin.empty; spare = 0; tasks = 0 }) place x → IsNextOf now (IsOther [] []) place x
  nothing_at None x h = absurd (has_none x h)
  nothing_at (Some s) x h = absurd (nothing_waits s x h)

-- the same lists, and no less room
pub agenda_seen : {q q' : Queues} {now : ℕ} {tasks : List KeptTask} → q'.ready ≡ q.ready → q'.waiting ≡ q.waiting → q.tasks ≤ q'.tasks →
    IsAgenda q now tasks [] → IsAgenda q' now tasks []
agenda_seen {q} {q'} {now} {tasks} ready waiting more a = record {
  next = next_seen q q' now (IsOther tasks []) ready waiting a.next;
  count = omega (arith, a.count, same_count);
  some = subst NoneEmpty (sym waiting) a.some;
  numbers = All-weaker (λ (k : KeptTask). k.task < q.tasks) (λ k. k.task < q'.tasks) (λ k h. omega arith) tasks a.numbers;
  room = omega arith;
} where
  same_count : key_count q' ≡ key_count q
  same_count = λ i. key_count (record { ready = ready i; waiting = waiting i; spare = 0; tasks = 0 })

-- the key of a task that isn't inside can be put
pub absent_task : {q : Queues} {now : ℕ} {tasks : List KeptTask} (task : ℕ) → member_in tasks task ≡ None → IsAgenda q now tasks [] → ¬ (IsQueued q task)
absent_task {q} {now} {tasks} task none a =
    not_queued q now (Contains tasks) task (next_all a) (λ k at e. All-contains (λ (x : KeptTask). x.task ≢ task) tasks k (has_no_task tasks task none) at (sym e))

-- and so can one that is away
pub absent_away : {q : Queues} {now : ℕ} {tasks : List KeptTask} {away : List Priority} (key : Priority) → IsAgenda q now tasks (key ∷ away) → ¬ (IsQueued q key.task)
absent_away {q} {now} {tasks} {away} key a =
    not_queued q now (IsOther tasks (key ∷ away)) key.task a.next (λ k o. All-head (λ (p : Priority). p.task ≢ k.task) key away o.apart)

-- a task joins
pub agenda_joined : (q q' : Queues) (now s : ℕ) (tasks : List KeptTask) (new : KeptTask) → s ≡ max (eligible_from new.member) now → q' ≡ with_put q s (key_for new) →
    key_count q' ≡ key_count q + 1 → NoneEmpty q'.waiting → new.task < q.tasks → IsAgenda q now tasks [] → IsAgenda q' now (tasks ++ new ∷ []) []
agenda_joined q q' now s tasks new at is more some number a = record {
  next = next_none_away (next_same q' now (λ k. Contains tasks k ⊎ (k ≡ new)) (Contains (tasks ++ new ∷ []))
      (λ k ways. ⊎_elim (λ old. Contains-append_left tasks (new ∷ []) k old) (λ e. subst (Contains (tasks ++ new ∷ [])) (sym e) (Contains-push tasks new)) ways)
      (λ k there. ⊎_elim (λ old. inl old) (λ e. inr (sym e)) (Contains-push_cases tasks new k there))
      (next_put q q' now s (Contains tasks) new at is (next_all a)));
  count = omega (arith, a.count, more, length_push tasks new);
  some = some;
  numbers = subst (λ n. All (λ (k : KeptTask). k.task < n) (tasks ++ new ∷ [])) (sym (ap (λ (x : Queues). x.tasks) is))
      (All-push (λ (k : KeptTask). k.task < q.tasks) tasks new a.numbers number);
  room = omega arith;
}

-- a key comes back, for the task as it is then
pub agenda_put : (q q' : Queues) (now s : ℕ) (tasks : List KeptTask) (key : Priority) (away : List Priority) (f : Member → Member) (m : Member) →
    Differ (Contains tasks) → member_in (changed_tasks key.task f tasks) key.task ≡ Some m → All (λ p. p.task ≢ key.task) away →
    s ≡ max (eligible_from m) now → q' ≡ with_put q s (next_key key.task m) → key_count q' ≡ key_count q + 1 → NoneEmpty q'.waiting →
    IsAgenda q now tasks (key ∷ away) → IsAgenda q' now (changed_tasks key.task f tasks) away
agenda_put q q' now s tasks key away f m differ found apart at is more some a =
    let new : KeptTask = record { task = key.task; member = m } in
    let after = changed_tasks key.task f tasks in
    record {
      next = next_same q' now (λ k. IsOther tasks (key ∷ away) k ⊎ (k ≡ new)) (IsOther after away)
          (λ k ways. ⊎_elim
          (λ o. record {
            among = changed_other tasks key.task f m differ found k o.among (All-head (λ (p : Priority). p.task ≢ k.task) key away o.apart);
            apart = All-tail (λ (p : Priority). p.task ≢ k.task) key away o.apart;
          })
          (λ e. subst (IsOther after away) (sym e) (record { among = changed_new tasks key.task f m differ found; apart = apart }))
          ways)
          (λ k o. ⊎_elim
          (λ old. inl (record { among = old.0; apart = All-cons (λ (p : Priority). p.task ≢ k.task) key away old.1 o.apart }))
          (λ e. inr e)
          (changed_cases tasks key.task f m differ found k o.among))
          (next_put q q' now s (IsOther tasks (key ∷ away)) new at is a.next);
      count = omega (arith, a.count, more, length-map tasks (changed_task key.task f));
      some = some;
      numbers = subst (λ n. All (λ (k : KeptTask). k.task < n) after) (sym (ap (λ (x : Queues). x.tasks) is))
          (All-map (λ (k : KeptTask). k.task < q.tasks) (changed_task key.task f) tasks
          (All-weaker (λ (k : KeptTask). k.task < q.tasks) (λ k. (changed_task key.task f k).task < q.tasks)
          (λ k h. omega (arith, same_task key.task f k)) tasks a.numbers));
      room = omega (arith, a.room, ap (λ (x : Queues). x.spare) is);
    }

-- what taking out leaves
pub room_more : (old after : Queues) (k : Priority) → TakesOut old after k → (after.spare ≡ old.spare + 1) × (after.tasks ≡ old.tasks)
room_more old after k takes = ⊎_elim
    (λ r. (ap (λ (x : Queues). x.spare) r.1, ap (λ (x : Queues). x.tasks) r.1))
    (λ w. (ap (λ (x : Queues). x.spare) w.2, ap (λ (x : Queues). x.tasks) w.2))
    takes

-- a key of this task is away, where there were so many spare places before
pub record HasAway (q : Queues) (now : ℕ) (tasks : List KeptTask) (task spare : ℕ) : Type 0 where
  pub key : Priority
  pub of_task : key.task ≡ task
  pub freed : q.spare ≡ spare + 1
  pub agenda : IsAgenda q now tasks (key ∷ [])

-- the same numbers fit then
pub tasks_taken : (q q' : Queues) (task : ℕ) (o : Option Priority) →
    MatchOption o ((¬ (IsQueued q task)) × (q' ≡ q)) (λ k. (k.task ≡ task) × TakesOut q q' k) → q'.tasks ≡ q.tasks
tasks_taken q q' task None none = ap (λ (x : Queues). x.tasks) none.1
tasks_taken q q' task (Some key) takes = (room_more q q' key takes.1).1

-- one key fewer, where one was inside
pub count_taken : (q q' : Queues) (task : ℕ) (o : Option Priority) → MatchOption o ((¬ (IsQueued q task)) × (q' ≡ q)) (λ k. (k.task ≡ task) × TakesOut q q' k) →
    IfSome o (λ k. key_count q' + 1 ≡ key_count q) → key_count q' ≤ key_count q
count_taken q q' task None none fewer = omega (arith, ap key_count none.1)
count_taken q q' task (Some key) takes fewer = omega (arith, fewer)

pub agenda_taken : (q q' : Queues) (now : ℕ) (tasks : List KeptTask) (task : ℕ) (m : Member) (o : Option Priority) → member_in tasks task ≡ Some m →
    MatchOption o ((¬ (IsQueued q task)) × (q' ≡ q)) (λ k. (k.task ≡ task) × TakesOut q q' k) → IfSome o (λ k. key_count q' + 1 ≡ key_count q) →
    EachTaskOnce q → NoneEmpty q'.waiting → IsAgenda q now tasks [] → HasAway q' now tasks task q.spare
agenda_taken q q' now tasks task m None found none fewer once some a =
    absurd (none.0 (record {
      key = next_key task m;
      has = (next_all a).each (record { task = task; member = m }) (found_in tasks task m found);
      of_task = refl;
    }))
agenda_taken q q' now tasks task m (Some key) found takes fewer once some a = record {
  key = key;
  of_task = takes.0;
  freed = (room_more q q' key takes.1).0;
  agenda = record {
    next = next_same q' now (λ k. Contains tasks k × (key.task ≢ k.task)) (IsOther tasks (key ∷ []))
        (λ k both. record { among = both.0; apart = All-cons (λ (p : Priority). p.task ≢ k.task) key [] both.1 (All-nil (λ (p : Priority). p.task ≢ k.task)) })
        (λ k o. (o.among, All-head (λ (p : Priority). p.task ≢ k.task) key [] o.apart))
        (next_taken q q' now key.task (Contains tasks) key refl takes.1 once (next_all a));
    count = omega (arith, a.count, fewer);
    some = some;
    numbers = subst (λ n. All (λ (k : KeptTask). k.task < n) tasks) (sym (room_more q q' key takes.1).1) a.numbers;
    room = omega (arith, (room_more q q' key takes.1).0);
  };
}

-- its task leaves
pub agenda_left : {q : Queues} {now spare : ℕ} (tasks : List KeptTask) (task : ℕ) (m : Member) → ((t : ℕ) → tasks_of t tasks ≤ 1) → member_in tasks task ≡ Some m →
    HasAway q now tasks task spare → IsAgenda q now (other_tasks task tasks) []
agenda_left {q} {now} tasks task m once found h =
    let key = h.key in
    let stays : KeptTask → Bool = λ k. not (k.task == task) in
    let split = length-filter_both (λ (k : KeptTask). k.task == task) stays (λ k. refl) tasks in
    let one = some_of tasks (record { task = task; member = m }) (found_in tasks task m found) in
    record {
      next = next_same q now (IsOther tasks (key ∷ [])) (IsOther (other_tasks task tasks) [])
          (λ k o. others (other_tasks task tasks) k
          (in_filter stays tasks k o.among
          (ap not (ne_eqb k.task task (λ e. All-head (λ (p : Priority). p.task ≢ k.task) key [] o.apart (h.of_task ∙ sym e))))))
          (λ k o.
          let f = from_filter stays tasks k o.among in
          record {
            among = f.0;
            apart = All-cons (λ (p : Priority). p.task ≢ k.task) key []
                (λ e. let c : not (k.task == task) ≡ false = ap not (eq-eqb k.task task (sym e ∙ h.of_task)) in cc) (All-nil (λ (p : Priority). p.task ≢ k.task));
          })
          h.agenda.next;
      count = omega (arith, h.agenda.count, split, one, once task, length-filter (λ (k : KeptTask). k.task == task) tasks);
      some = h.agenda.some;
      numbers = λ k d lt.
          let f = from_filter stays tasks (get_or (other_tasks task tasks) k d) (Contains-get_or (other_tasks task tasks) k d lt) in
          All-contains (λ (x : KeptTask). x.task < q.tasks) tasks (get_or (other_tasks task tasks) k d) h.agenda.numbers f.0;
      room = omega arith;
    }

-- ---- a slot

pub agenda_advanced : (q q' : Queues) (t : ℕ) (tasks : List KeptTask) → IsAdvanced q q' t → key_count q' ≡ key_count q → NoneEmpty q'.waiting →
    IsAgenda q t tasks [] → IsAgenda q' (t + 1) tasks []
agenda_advanced q q' t tasks is same some a = record {
  next = next_advanced q q' t (IsOther tasks []) is a.next;
  count = omega (arith, a.count, same);
  some = some;
  numbers = subst (λ n. All (λ (k : KeptTask). k.task < n) tasks) (sym (ap (λ (x : Queues). x.tasks) is)) a.numbers;
  room = omega arith;
}

pub agenda_chosen : (q q' : Queues) (now : ℕ) (tasks : List KeptTask) (keys : List Priority) → TakesFirst q q' keys → EachTaskOnce q →
    IsAgenda q now tasks [] → IsAgenda q' now tasks keys
agenda_chosen q q' now tasks keys takes once a = record {
  next = next_chosen q q' now tasks keys (next_all a) takes once;
  count = omega (arith, a.count, takes.counted);
  some = subst NoneEmpty (sym takes.waiting) a.some;
  numbers = subst (λ n. All (λ (k : KeptTask). k.task < n) tasks) (sym takes.tasks) a.numbers;
  room = omega (arith, takes.spare);
}

-- a task that is changed is still inside
pub found_changed : (tasks : List KeptTask) (task : ℕ) (f : Member → Member) (m : Member) → member_in tasks task ≡ Some m → member_in (changed_tasks task f tasks) task ≡ None → ⊥
found_changed tasks task f m found none =
    let old : KeptTask = record { task = task; member = m } in
    let at = in_map (changed_task task f) tasks old (found_in tasks task m found) in
    All-contains (λ (x : KeptTask). x.task ≢ task) (changed_tasks task f tasks) (changed_task task f old) (has_no_task (changed_tasks task f tasks) task none) at
    (same_task task f old)

-- the key of the one that is away comes back
pub agenda_back : (q q' : Queues) (now s spare : ℕ) (tasks : List KeptTask) (task : ℕ) (f : Member → Member) (m : Member) →
    Differ (Contains tasks) → member_in (changed_tasks task f tasks) task ≡ Some m →
    s ≡ max (eligible_from m) now → q' ≡ with_put q s (next_key task m) → key_count q' ≡ key_count q + 1 → NoneEmpty q'.waiting →
    HasAway q now tasks task spare → IsAgenda q' now (changed_tasks task f tasks) []
agenda_back q q' now s spare tasks task f m differ found at is more some h =
    subst (λ t. member_in (changed_tasks t f tasks) t ≡ Some m → q' ≡ with_put q s (next_key t m) → IsAgenda q' now (changed_tasks t f tasks) []) h.of_task
    (λ found_it is_it. agenda_put q q' now s tasks h.key [] f m differ found_it (All-nil (λ (p : Priority). p.task ≢ h.key.task)) at is_it more some h.agenda)
    found is

-- ---- a key's subtask runs

pub differ_changed : (tasks : List KeptTask) (task : ℕ) (f : Member → Member) → Differ (Contains tasks) → Differ (Contains (changed_tasks task f tasks))
differ_changed tasks task f differ x y at_x at_y same =
    let a = from_map (changed_task task f) tasks x at_x in
    let b = from_map (changed_task task f) tasks y at_y in
    let number : a.0.task ≡ b.0.task =
    sym (same_task task f a.0) ∙ ap (λ (k : KeptTask). k.task) a.2 ∙ same ∙ sym (ap (λ (k : KeptTask). k.task) b.2) ∙ same_task task f b.0 in
    sym a.2 ∙ ap (changed_task task f) (differ a.0 b.0 a.1 b.1 number) ∙ b.2

-- a number that no task has was no task's before
pub none_changed : (tasks : List KeptTask) (task number : ℕ) (f : Member → Member) → member_in (changed_tasks task f tasks) number ≡ None → member_in tasks number ≡ None
none_changed tasks task number f none =
    sym (no_member tasks number (λ i d lt same.
    All-contains (λ (x : KeptTask). x.task ≢ number) (changed_tasks task f tasks) (changed_task task f (get_or tasks i d))
    (has_no_task (changed_tasks task f tasks) number none) (in_map (changed_task task f) tasks (get_or tasks i d) (Contains-get_or tasks i d lt))
    (same_task task f (get_or tasks i d) ∙ same)))

member_ran : (sub : ℕ) (m : Member) → sub < 2 ^ 24 → IsMember m → IsMember (member_after_run sub m)
member_ran sub m small is = record { done = small; shift = is.shift; last = is.shift }

inside_cond : (b : Bool) (sub : ℕ) (k : KeptTask) → sub < 2 ^ 24 → IsInside k →
    IsInside (cond b (record { task = k.task; member = member_after_run sub k.member }) k)
inside_cond true sub k small is = record { task_some = is.task_some; task_within = is.task_within; member = member_ran sub k.member small is.member; joined = is.joined; early = is.early }
inside_cond false sub k small is = is

pub inside_changed : (tasks : List KeptTask) (task sub : ℕ) → sub < 2 ^ 24 → All IsInside tasks → All IsInside (changed_tasks task (member_after_run sub) tasks)
inside_changed tasks task sub small all =
    All-map IsInside (changed_task task (member_after_run sub)) tasks
    (All-weaker IsInside (λ k. IsInside (changed_task task (member_after_run sub) k)) (λ k is. inside_cond (k.task == task) sub k small is) tasks all)

-- the keys that are away are of different tasks
pub others_apart : (keys : List Priority) (i : ℕ) (d : Priority) → AllPairs (λ x y. x.task ≢ y.task) keys → i < length keys →
    All (λ p. p.task ≢ (get_or keys i d).task) (drop (i + 1) keys)
others_apart keys i d apart within k e lt same =
    let long : length (drop (i + 1) keys) ≡ length keys - (i + 1) = length-drop (i + 1) keys in
    apart i (i + 1 + k) e (omega arith) (omega arith)
    (ap (λ (p : Priority). p.task) (get_or_default keys i e d within) ∙ sym same ∙ ap (λ (p : Priority). p.task) (get_or-drop (i + 1) keys k e))
