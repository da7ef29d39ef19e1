-- The keys that a calendar gives up are the first of the eligible ones.
use Rattle.std.proofs.Common.{◌≡◌, ◌≢◌, ℕ, zero, suc, ◌+◌, ◌<◌, ◌≤◌, Bool, true, not, ◌&&◌, inl, inr, cond, ◌==◌, count_by, Option, Some, None, ◌⊎◌, List, [], ◌∷◌, ◌++◌, length, filter, get_or, remove, Contains, IsTrue, IsPermutation, refl, sym, ap, ◌∙◌, subst, arith, ⊎_elim}
use Rattle.std.proofs.lemmas.Bool.{true≢false, cases_lt, cases_Bool, eq-eqb}
use Rattle.std.proofs.lemmas.List.Sums.{get_or-le-sum_by}
use Rattle.pf_run.proofs.Counting.{count_by-cons}
use Rattle.std.proofs.lemmas.List.{length-append, length_push}
use Rattle.std.proofs.lemmas.List.Edits.{length-remove, get_or-remove_below, get_or-remove_above}
use Rattle.std.proofs.lemmas.List.Elements.{Contains-get_or, Contains-append_left, Contains-append_right, Contains-append_cases, Contains-push, Contains-push_cases, All-contains}
use Rattle.std.proofs.lemmas.List.Kept.{AllPairs-filter}
use Rattle.std.proofs.lemmas.List.Quantifiers.{all_pairs_remove, all_pairs_push}
use Rattle.std.proofs.lemmas.List.Sorted.{IsPermutation-refl, IsPermutation-sym, IsPermutation-trans, IsPermutation-cons, IsPermutation-remove, Contains-permutation, length_permutation}
use Rattle.std.specs.FinSet as set
use Rattle.std.specs.FinSet.{contains-remove}
use Rattle.std.specs.Ordering.{eq_by_cmp}
use Rattle.pf_order.specs.Priority.{Priority, precedes, key_cmp}
use Rattle.pf_order.specs.First.{AreFirst}
use Rattle.pf_order.proofs.Order as order
use Rattle.pf_order.proofs.Order.{key_cmp_total}
use Rattle.pf_heap.specs.Keys.{IsFirst}
use Rattle.pf_heap.proofs.Sets.{tied_keys}
use Rattle.pf_calendar.specs.Queues.{Queues, list_at, EachTaskOnce, key_count}
use Rattle.pf_calendar.proofs.Sets.{has_none, remove_in, not_in_removed}
use Rattle.pf_run.proofs.Containing.{contains_none, contains_head, contains_tail, contains_cases, from_filter, in_filter, pairs_head, pairs_tail, pairs_append, pairs_cases}
use Rattle.pf_run.proofs.Firsts.{TasksDiffer, first_of_choice}
use Rattle.pf_engine.specs.Fits.{KeptTask, Kept}
use Rattle.pf_engine.specs.Kept.{ready_keys}
use Rattle.pf_engine.specs.Agenda.{HasNext, IsOther, IsReady, TakesFirst}
use Rattle.pf_engine.proofs.Held.{Has, held_at, holds_from}
use Rattle.pf_engine.proofs.NextKeys.{key_for}

-- x at place i is not at another place, too
not_twice : (ys : List Priority) (i : ℕ) (x : Priority) → TasksDiffer ys → i < length ys → get_or ys i x ≡ x → Contains (remove ys i) x → ⊥
not_twice ys i x differ lt is again =
    let long : length (remove ys i) + 1 ≡ length ys = length-remove ys i lt in
    let within : again.0 < length (remove ys i) = again.1 in
    ⊎_elim
    (λ below.
    differ again.0 i x below lt
    (ap (λ (k : Priority). k.task) (sym (get_or-remove_below ys i x again.0 below lt) ∙ again.2 ∙ sym is)))
    (λ above.
    differ i (again.0 + 1) x (omega arith) (omega arith)
    (ap (λ (k : Priority). k.task) (is ∙ sym again.2 ∙ get_or-remove_above ys i x again.0 above lt)))
    (cases_lt again.0 i)

-- lists of keys of different tasks with the same elements
same_members : (xs ys : List Priority) → TasksDiffer xs → TasksDiffer ys → ((k : Priority) → Contains xs k → Contains ys k) →
    ((k : Priority) → Contains ys k → Contains xs k) → IsPermutation xs ys
same_members [] [] one two to back = IsPermutation-refl []
same_members [] (y ∷ ys) one two to back = absurd (contains_none y (back y (contains_head y ys)))
same_members (x ∷ xs) ys one two to back =
    let at = to x (contains_head x xs) in
    let left = remove ys at.0 in
    let split : IsPermutation ys (x ∷ left) = IsPermutation-remove ys at.0 x at.1 (sym at.2) in
    IsPermutation-trans (x ∷ xs) (x ∷ left) ys
    (IsPermutation-cons x xs left
    (same_members xs left (pairs_tail (λ a b. a.task ≢ b.task) x xs one) (all_pairs_remove (λ a b. a.task ≢ b.task) ys at.0 at.1 two)
    (λ k here. ⊎_elim
    (λ e. absurd (pairs_head (λ a b. a.task ≢ b.task) x xs k one here (ap (λ (a : Priority). a.task) e)))
    (λ later. later)
    (contains_cases x left k (Contains-permutation ys (x ∷ left) k split (to k (contains_tail x xs k here)))))
    (λ k here. ⊎_elim
    (λ e. absurd (not_twice ys at.0 x two at.1 at.2 (subst (Contains left) (sym e) here)))
    (λ later. later)
    (contains_cases x xs k (back k (Contains-permutation (x ∷ left) ys k (IsPermutation-sym ys (x ∷ left) split) (contains_tail x left k here)))))))
    (IsPermutation-sym ys (x ∷ left) split)

-- a key doesn't come before itself
not_itself : (x y : Priority) → IsTrue (precedes x y) → x ≡ y → ⊥
not_itself x y first same = true≢false (sym first ∙ ap (λ z. precedes z y) same ∙ order.none_precedes_itself y)

-- of two of the keys that come one before the other
before_differ : (keys : List Priority) (x y : Priority) → TasksDiffer keys → Contains keys x → Contains keys y → IsTrue (precedes x y) → x.task ≢ y.task
before_differ keys x y differ at_x at_y first same = ⊎_elim
    (λ e. not_itself x y first e)
    (λ apart. ⊎_elim (λ lower. lower same) (λ higher. higher (sym same)) apart)
    (pairs_cases (λ a b. a.task ≢ b.task) keys x y differ at_x at_y)

none_of : (keys : List Priority) → ((k : Priority) → Contains keys k → ⊥) → length keys ≡ 0
none_of [] none = refl
none_of (k ∷ ks) none = absurd (none k (contains_head k ks))

pub first_taken : (n : ℕ) (e : Kept) (q q' : Queues) (keys : List Priority) → IsReady q e → TasksDiffer (ready_keys e) → TakesFirst q q' keys →
    (length keys ≡ n) ⊎ (q'.ready ≡ set.empty) → length keys ≤ n → AreFirst n (ready_keys e) keys
first_taken n e q q' keys ready differ takes enough few =
    let all = ready_keys e in
    let rest = filter (set.contains q'.ready) all in
    let in_all : (k : Priority) → Contains keys k → Contains all k = λ k at. (ready k).0 (takes.taken k at) in
    let in_rest : (k : Priority) → Contains rest k → Contains all k × (set.contains q'.ready k ≡ true) =
    λ k at. from_filter (set.contains q'.ready) all k at in
    let apart : TasksDiffer (keys ++ rest) = pairs_append (λ a b. a.task ≢ b.task) keys rest
    (λ i j d before within.
    before_differ all (get_or keys i d) (get_or keys j d) differ (in_all _ (Contains-get_or keys i d (omega arith)))
    (in_all _ (Contains-get_or keys j d within)) (takes.in_order i j d before within))
    (AllPairs-filter (λ a b. a.task ≢ b.task) (set.contains q'.ready) all differ)
    (λ x y at later.
    before_differ all x y differ (in_all x at) (in_rest y later).0 (takes.ahead x y at (in_rest y later).1)) in
    let same : IsPermutation all (keys ++ rest) = same_members all (keys ++ rest) differ apart
    (λ k at. ⊎_elim
    (λ here. Contains-append_left keys rest k here)
    (λ later. Contains-append_right keys rest k (in_filter (set.contains q'.ready) all k at later))
    (takes.split k ((ready k).1 at)))
    (λ k at. ⊎_elim (λ here. in_all k here) (λ later. (in_rest k later).0) (Contains-append_cases keys rest k at)) in
    let long : length all ≡ length keys + length rest = sym (length_permutation all (keys ++ rest) same) ∙ length-append keys rest in
    first_of_choice n all keys rest (record {
      same = same;
      in_order = takes.in_order;
      ahead = λ x y at later. takes.ahead x y at (in_rest y later).1;
      enough = ⊎_elim
          (λ full. omega arith)
          (λ spent.
          let none : length rest ≡ 0 = none_of rest (λ k at. has_none k (sym (ap (λ s. set.contains s k) spent) ∙ (in_rest k at).1)) in
          omega arith)
          enough;
    })

-- the others' keys are still there
slot_same : (q q' : Queues) → q'.waiting ≡ q.waiting → (s : ℕ) (x : Priority) → set.contains (list_at q.waiting s) x ≡ true → set.contains (list_at q'.waiting s) x ≡ true
slot_same q q' waiting s x h = ap (λ w. set.contains (list_at w s) x) waiting ∙ h

was_held : (q q' : Queues) (keys : List Priority) → TakesFirst q q' keys → (place : Option ℕ) (x : Priority) → Has q' place x → Has q place x
was_held q q' keys takes None x h = takes.left x h
was_held q q' keys takes (Some s) x h = slot_same q' q (sym takes.waiting) s x h

still_held : (q q' : Queues) (keys : List Priority) → TakesFirst q q' keys → (place : Option ℕ) (x : Priority) → Has q place x → (Contains keys x → ⊥) → Has q' place x
still_held q q' keys takes None x h away = ⊎_elim (λ at. absurd (away at)) (λ left. left) (takes.split x h)
still_held q q' keys takes (Some s) x h away = slot_same q q' takes.waiting s x h

pub next_chosen : (q q' : Queues) (now : ℕ) (tasks : List KeptTask) (keys : List Priority) → HasNext q now (Contains tasks) → TakesFirst q q' keys →
    EachTaskOnce q → HasNext q' now (IsOther tasks keys)
next_chosen q q' now tasks keys n takes once = record {
  only = λ place x h.
      let was = was_held q q' keys takes place x h in
      let o = n.only place x was in
      record {
        kept = o.kept;
        among = record {
          among = o.among;
          apart = λ i d lt same.
              let p = get_or keys i d in
              let at = Contains-get_or keys i d lt in
              let both = once place None x p was (takes.taken p at) (ap (λ (k : Priority). k.task) o.is ∙ sym same) in
              not_itself p x (takes.ahead p x at (subst (λ y. Has q' y x) both.0 h)) (sym both.1);
        };
        is = o.is;
        stands = o.stands;
      };
  each = λ k other.
      let h = held_at q (key_for k) (n.each k other.among) in
      holds_from q' h.0 (key_for k)
      (still_held q q' keys takes h.0 (key_for k) h.1 (λ at. All-contains (λ (p : Priority). p.task ≢ k.task) keys (key_for k) other.apart at refl));
}

-- 1 for a test that passes
abbrev passed : Bool → ℕ
passed b = cond b 1 0

-- two places hold keys of two tasks
twice : (keys : List Priority) (task i j : ℕ) (d : Priority) → i < j → j < length keys →
    (get_or keys i d).task ≡ task → (get_or keys j d).task ≡ task → 2 ≤ count_by (λ k. k.task == task) keys
twice [] task i j d before within first second = absurd (omega arith)
twice (x ∷ xs) task zero zero d before within first second = absurd (omega arith)
twice (x ∷ xs) task zero (suc j) d before within first second =
    let one : passed (x.task == task) ≡ 1 = ap passed (eq-eqb x.task task first) in
    let other = get_or-le-sum_by (λ (k : Priority). cond (k.task == task) 1 0) xs j d (omega arith) in
    let own : passed ((get_or xs j d).task == task) ≡ 1 = ap passed (eq-eqb (get_or xs j d).task task second) in
    omega (arith, count_by-cons (λ k. k.task == task) x xs, one, other, own)
twice (x ∷ xs) task (suc i) zero d before within first second = absurd (omega arith)
twice (x ∷ xs) task (suc i) (suc j) d before within first second =
    omega (arith, count_by-cons (λ k. k.task == task) x xs, twice xs task i j d (omega arith) (omega arith) first second)

pub keys_differ : (keys : List Priority) → ((task : ℕ) → count_by (λ k. k.task == task) keys ≤ 1) → TasksDiffer keys
keys_differ keys one i j d before within same =
    absurd (omega (arith, one (get_or keys j d).task, twice keys (get_or keys j d).task i j d before within same refl))

-- ---- one key after another is taken out

pub takes_none : (q : Queues) → TakesFirst q q []
takes_none q = record {
  split = λ k h. inr h;
  taken = λ k at. absurd (contains_none k at);
  left = λ k h. h;
  in_order = λ i j d before within. absurd (omega arith);
  ahead = λ x y at h. absurd (contains_none x at);
  waiting = refl;
  tasks = refl;
  spare = omega arith;
  counted = omega arith;
}

pub takes_more : (old q q' : Queues) (keys : List Priority) (k : Priority) → TakesFirst old q keys → IsFirst q.ready k →
    q' ≡ record q { ready = set.remove q.ready k; spare = q.spare + 1 } → EachTaskOnce q → key_count q' + 1 ≡ key_count q → TakesFirst old q' (keys ++ k ∷ [])
takes_more old q q' keys k t first is once fewer =
    let was : (x : Priority) → set.contains q'.ready x ≡ true → set.contains q.ready x ≡ true =
    λ x h. remove_in q.ready k x (sym (ap (λ (p : Queues). set.contains p.ready x) is) ∙ h) in
    let other : (y : Priority) → set.contains q'.ready y ≡ true → k.task ≢ y.task = λ y h same.
    let e : k ≡ y = (once None None k y first.0 (was y h) same).1 in
    not_in_removed q.ready k (ap (set.contains (set.remove q.ready k)) e ∙ sym (ap (λ (p : Queues). set.contains p.ready y) is) ∙ h) in
    record {
      split = λ x h. ⊎_elim
          (λ at. inl (Contains-append_left keys (k ∷ []) x at))
          (λ there. ⊎_elim
          (λ e. inl (subst (Contains (keys ++ k ∷ [])) (sym (tied_keys x k e)) (Contains-push keys k)))
          (λ ne. inr (ap (λ (p : Queues). set.contains p.ready x) is
          ∙ contains-remove key_cmp_total q.ready k x
          ∙ ap (λ b. not b && set.contains q.ready x) ne
          ∙ there))
          (cases_Bool (eq_by_cmp key_cmp x k)))
          (t.split x h);
      taken = λ x at. ⊎_elim (λ early. t.taken x early) (λ e. t.left x (ap (set.contains q.ready) (sym e) ∙ first.0)) (Contains-push_cases keys k x at);
      left = λ x h. t.left x (was x h);
      in_order = all_pairs_push (λ x y. IsTrue (precedes x y)) keys k t.in_order
          (λ i d lt. t.ahead (get_or keys i d) k (Contains-get_or keys i d lt) first.0);
      ahead = λ x y at h. ⊎_elim
          (λ early. t.ahead x y early (was y h))
          (λ e. ap (λ z. precedes z y) (sym e) ∙ order.one_of_two_precedes k y (other y h) ∙ ap not (first.1 y (was y h)))
          (Contains-push_cases keys k x at);
      waiting = ap (λ (p : Queues). p.waiting) is ∙ t.waiting;
      tasks = ap (λ (p : Queues). p.tasks) is ∙ t.tasks;
      spare = omega (arith, ap (λ (p : Queues). p.spare) is, t.spare, length_push keys k);
      counted = omega (arith, fewer, t.counted, length_push keys k);
    }
