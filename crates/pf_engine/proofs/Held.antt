-- What the steps of a calendar leave in its lists.
use Rattle.std.proofs.Common.{◌≡◌, ◌≢◌, ℕ, ◌+◌, ◌<◌, ◌≤◌, Bool, true, false, not, ◌==◌, ◌&&◌, cond, leb, ltb, ◌⊎◌, inl, inr, Option, Some, None, List, [], ◌∷◌, zero, suc, length, get_or, unwrap_or, refl, sym, ap, ◌∙◌, arith, ⊎_elim}
use Rattle.std.proofs.lemmas.Bool.{cases_eq, cases_Bool, eqb-true, leb-true, le-leb, or_right, or_left}
use Rattle.std.proofs.lemmas.Bool.Decides.{nat_tests}
use Rattle.std.proofs.lemmas.List.{get_or-map, length-map}
use Rattle.std.specs.Ordering.{nat_cmp, eq_by_cmp}
use Rattle.std.specs.Cmp.{nat_cmp_total}
use Rattle.std.specs.FinSet as set
use Rattle.std.specs.FinSet.{contains-insert, contains-remove, contains-union, empty_of_len}
use Rattle.std.specs.FinMap as fin
use Rattle.std.specs.FinMap.{nat_cmp-IsAntisymmetric, get-insert, get-remove, get-retain_keys, same_entries_map, entries-from_sorted, entries_sorted}
use Rattle.pf_order.specs.Priority.{Priority, key_cmp}
use Rattle.pf_order.proofs.Order.{key_cmp_total}
use Rattle.pf_heap.specs.Keys.{Keys}
use Rattle.pf_heap.proofs.Sets.{tied_keys, key_alike}
use Rattle.pf_calendar.specs.Queues.{Queues, Waiting, list_at, list_in, until, later, due, all_of, Holds, with_waiting_list, TakesOut, EachTaskOnce}
use Rattle.pf_calendar.proofs.Sets.{has_none, insert_cases, remove_in, not_in_removed, some_list}
use Rattle.pf_calendar.proofs.Maps.{true_of, waits_at, waits_from}
use Rattle.pf_calendar.proofs.Slots.{eq_by-same, eq_by-other}
use Rattle.pf_engine.specs.Agenda.{with_put}

-- the key is in the ready list, or in that of a slot
abbrev pub Has : Queues → Option ℕ → Priority → Type 0
Has q place k = set.contains (list_in q place) k ≡ true

pub held_at : (q : Queues) (k : Priority) → Holds q k → (place : Option ℕ) × Has q place k
held_at q k h = ⊎_elim (λ r. (None, r)) (λ w. (Some w.0, w.1)) h

pub holds_from : (q : Queues) (place : Option ℕ) (k : Priority) → Has q place k → Holds q k
holds_from q None k h = inl h
holds_from q (Some s) k h = inr (s, h)

pub same_place : (x y : Option ℕ) → (x ≡ y) ⊎ (x ≡ y → ⊥)
same_place None None = inl refl
same_place None (Some t) = inr (λ e. cc)
same_place (Some s) None = inr (λ e. cc)
same_place (Some s) (Some t) = ⊎_elim (λ e. inl (ap Some e)) (λ ne. inr (λ e. ne (cc))) (cases_eq s t)

-- ---- the list of one slot

list_set : (w : Waiting) (s : ℕ) (keys : Keys) → list_at (fin.insert w s keys) s ≡ keys
list_set w s keys =
    ap (λ o. unwrap_or o set.empty)
    (get-insert nat_cmp_total w s keys s ∙ ap (λ b. cond b (Some keys) (fin.get w s)) (eq_by-same s s refl))

list_other : (w : Waiting) (s x : ℕ) (keys : Keys) → x ≢ s → list_at (fin.insert w s keys) x ≡ list_at w x
list_other w s x keys ne =
    ap (λ o. unwrap_or o set.empty)
    (get-insert nat_cmp_total w s keys x ∙ ap (λ b. cond b (Some keys) (fin.get w x)) (eq_by-other x s ne))

list_gone : (w : Waiting) (s : ℕ) → list_at (fin.remove w s) s ≡ set.empty
list_gone w s =
    ap (λ o. unwrap_or o set.empty)
    (get-remove nat_cmp_total w s s ∙ ap (λ b. cond b None (fin.get w s)) (eq_by-same s s refl))

list_left : (w : Waiting) (s x : ℕ) → x ≢ s → list_at (fin.remove w s) x ≡ list_at w x
list_left w s x ne =
    ap (λ o. unwrap_or o set.empty)
    (get-remove nat_cmp_total w s x ∙ ap (λ b. cond b None (fin.get w x)) (eq_by-other x s ne))

with_here : (w : Waiting) (s : ℕ) (keys : Keys) → list_at (with_waiting_list w s keys) s ≡ keys
with_here w s keys = ⊎_elim
    (λ e. ap (λ b. list_at (cond b (fin.remove w s) (fin.insert w s keys)) s) e ∙ list_gone w s ∙ sym (empty_of_len keys (eqb-true (set.len keys) 0 e)))
    (λ e. ap (λ b. list_at (cond b (fin.remove w s) (fin.insert w s keys)) s) e ∙ list_set w s keys)
    (cases_Bool (set.len keys == 0))

with_there : (w : Waiting) (s x : ℕ) (keys : Keys) → x ≢ s → list_at (with_waiting_list w s keys) x ≡ list_at w x
with_there w s x keys ne = ⊎_elim
    (λ e. ap (λ b. list_at (cond b (fin.remove w s) (fin.insert w s keys)) x) e ∙ list_left w s x ne)
    (λ e. ap (λ b. list_at (cond b (fin.remove w s) (fin.insert w s keys)) x) e ∙ list_other w s x keys ne)
    (cases_Bool (set.len keys == 0))

-- ---- a key is put

pub put_from : (q : Queues) (s : ℕ) (key : Priority) (place : Option ℕ) (k : Priority) → Has (with_put q s key) place k →
    ((place ≡ Some s) × (k ≡ key)) ⊎ Has q place k
put_from q s key None k h = inr h
put_from q s key (Some x) k h = ⊎_elim
    (λ e. ⊎_elim
    (λ own. inl (ap Some e, own))
    (λ was. inr (ap (λ y. set.contains (list_at q.waiting y) k) e ∙ was))
    (insert_cases (list_at q.waiting s) key k
    (sym (ap (λ l. set.contains l k) (ap (list_at (with_put q s key).waiting) e ∙ list_set q.waiting s (set.insert (list_at q.waiting s) key))) ∙ h)))
    (λ ne. inr (sym (ap (λ l. set.contains l k) (list_other q.waiting s x (set.insert (list_at q.waiting s) key) ne)) ∙ h))
    (cases_eq x s)

pub put_new : (q : Queues) (s : ℕ) (key : Priority) → Has (with_put q s key) (Some s) key
put_new q s key =
    ap (λ l. set.contains l key) (list_set q.waiting s (set.insert (list_at q.waiting s) key))
    ∙ contains-insert key_cmp_total (list_at q.waiting s) key key
    ∙ or_left (eq_by_cmp key_cmp key key) (set.contains (list_at q.waiting s) key) (key_alike key)

pub put_old : (q : Queues) (s : ℕ) (key : Priority) (place : Option ℕ) (k : Priority) → Has q place k → Has (with_put q s key) place k
put_old q s key None k h = h
put_old q s key (Some x) k h = ⊎_elim
    (λ e.
    ap (λ l. set.contains l k) (ap (list_at (with_put q s key).waiting) e ∙ list_set q.waiting s (set.insert (list_at q.waiting s) key))
    ∙ contains-insert key_cmp_total (list_at q.waiting s) key k
    ∙ or_right (eq_by_cmp key_cmp k key) (set.contains (list_at q.waiting s) k) (ap (λ y. set.contains (list_at q.waiting y) k) (sym e) ∙ h))
    (λ ne. ap (λ l. set.contains l k) (list_other q.waiting s x (set.insert (list_at q.waiting s) key) ne) ∙ h)
    (cases_eq x s)

-- ---- a key is taken out

-- of one list, and the others stay
record TakenAt (old new : Queues) (k : Priority) (home : Option ℕ) : Type 0 where
  had : Has old home k
  here : list_in new home ≡ set.remove (list_in old home) k
  there : (x : Option ℕ) → (x ≡ home → ⊥) → list_in new x ≡ list_in old x

ready_there : (old new : Queues) (keys : Keys) (n : ℕ) → new ≡ record old { ready = keys; spare = n } → (x : Option ℕ) → (x ≡ None → ⊥) →
    list_in new x ≡ list_in old x
ready_there old new keys n is None ne = absurd (ne refl)
ready_there old new keys n is (Some s) ne = ap (λ (q : Queues). list_at q.waiting s) is

slot_there : (old new : Queues) (s : ℕ) (keys : Keys) (n : ℕ) → new ≡ record old { waiting = with_waiting_list old.waiting s keys; spare = n } → (x : Option ℕ) →
    (x ≡ Some s → ⊥) → list_in new x ≡ list_in old x
slot_there old new s keys n is None ne = ap (λ (q : Queues). q.ready) is
slot_there old new s keys n is (Some x) ne =
    ap (λ (q : Queues). list_at q.waiting x) is ∙ with_there old.waiting s x keys (λ e. ne (ap Some e))

taken_at : (old new : Queues) (k : Priority) → TakesOut old new k → (home : Option ℕ) × TakenAt old new k home
taken_at old new k takes = ⊎_elim
    (λ r. (
      None,
      record {
        had = r.0;
        here = ap (λ (q : Queues). q.ready) r.1;
        there = ready_there old new (set.remove old.ready k) (old.spare + 1) r.1;
      },
    ))
    (λ w. (
      Some w.0,
      record {
        had = w.1;
        here = ap (λ (q : Queues). list_at q.waiting w.0) w.2 ∙ with_here old.waiting w.0 (set.remove (list_at old.waiting w.0) k);
        there = slot_there old new w.0 (set.remove (list_at old.waiting w.0) k) (old.spare + 1) w.2;
      },
    ))
    takes

pub taken_from : (old new : Queues) (k : Priority) → TakesOut old new k → (place : Option ℕ) (x : Priority) → Has new place x → Has old place x
taken_from old new k takes place x h =
    let t = taken_at old new k takes in
    ⊎_elim
    (λ e. ap (λ p. set.contains (list_in old p) x) e
    ∙ remove_in (list_in old t.0) k x (sym (ap (λ l. set.contains l x) (ap (list_in new) e ∙ t.1.here)) ∙ h))
    (λ ne. sym (ap (λ l. set.contains l x) (t.1.there place ne)) ∙ h)
    (same_place place t.0)

pub taken_had : (old new : Queues) (k : Priority) → TakesOut old new k → (home : Option ℕ) × Has old home k
taken_had old new k takes = let t = taken_at old new k takes in (t.0, t.1.had)

pub taken_gone : (old new : Queues) (k : Priority) → TakesOut old new k → EachTaskOnce old → (place : Option ℕ) → Has new place k → ⊥
taken_gone old new k takes once place h =
    let t = taken_at old new k takes in
    let e : place ≡ t.0 = (once place t.0 k k (taken_from old new k takes place k h) t.1.had refl).0 in
    not_in_removed (list_in old t.0) k (sym (ap (λ l. set.contains l k) (ap (list_in new) e ∙ t.1.here)) ∙ h)

not_alike : (x k : Priority) → (x ≡ k → ⊥) → eq_by_cmp key_cmp x k ≡ false
not_alike x k ne = ⊎_elim (λ e. absurd (ne (tied_keys x k e))) (λ e. e) (cases_Bool (eq_by_cmp key_cmp x k))

pub left_in : (old new : Queues) (k : Priority) → TakesOut old new k → (place : Option ℕ) (x : Priority) → Has old place x → (x ≡ k → ⊥) → Has new place x
left_in old new k takes place x h ne =
    let t = taken_at old new k takes in
    ⊎_elim
    (λ e.
    ap (λ l. set.contains l x) (ap (list_in new) e ∙ t.1.here)
    ∙ contains-remove key_cmp_total (list_in old t.0) k x
    ∙ ap (λ b. not b && set.contains (list_in old t.0) x) (not_alike x k ne)
    ∙ ap (λ p. set.contains (list_in old p) x) (sym e) ∙ h)
    (λ away. ap (λ l. set.contains l x) (t.1.there place away) ∙ h)
    (same_place place t.0)

-- ---- what is due becomes ready

kept_keys : (w : Waiting) (p : ℕ → Bool) (s : ℕ) → list_at (fin.retain_keys w p) s ≡ unwrap_or (cond (p s) (fin.get w s) None) set.empty
kept_keys w p s = ap (λ o. unwrap_or o set.empty) (get-retain_keys w p s (λ x e. ap p (sym (nat_cmp-IsAntisymmetric s x e))))

kept_from : (b : Bool) (o : Option Keys) (k : Priority) → set.contains (unwrap_or (cond b o None) set.empty) k ≡ true →
    (b ≡ true) × (set.contains (unwrap_or o set.empty) k ≡ true)
kept_from true o k h = (refl, h)
kept_from false o k h = absurd (has_none k h)

kept_in : (b : Bool) (o : Option Keys) (k : Priority) → b ≡ true → set.contains (unwrap_or o set.empty) k ≡ true →
    set.contains (unwrap_or (cond b o None) set.empty) k ≡ true
kept_in true o k e h = h
kept_in false o k e h = cc

below : (t s : ℕ) → ltb t s ≡ true → t < s
below t s e = grind (arith, nat_tests)

is_below : (t s : ℕ) → t < s → ltb t s ≡ true
is_below t s e = grind (arith, nat_tests)

pub later_from : (w : Waiting) (t s : ℕ) (k : Priority) → set.contains (list_at (later t w) s) k ≡ true → (t < s) × (set.contains (list_at w s) k ≡ true)
later_from w t s k h =
    let f = kept_from (ltb t s) (fin.get w s) k (sym (ap (λ l. set.contains l k) (kept_keys w (λ x. ltb t x) s)) ∙ h) in
    (below t s f.0, f.1)

pub later_in : (w : Waiting) (t s : ℕ) (k : Priority) → t < s → set.contains (list_at w s) k ≡ true → set.contains (list_at (later t w) s) k ≡ true
later_in w t s k after h =
    ap (λ l. set.contains l k) (kept_keys w (λ x. ltb t x) s) ∙ kept_in (ltb t s) (fin.get w s) k (is_below t s after) h

entries_again : (w : Waiting) → fin.from_sorted (fin.entries w) ≡ w
entries_again w = same_entries_map (fin.from_sorted (fin.entries w)) w (entries-from_sorted nat_cmp (fin.entries w) (entries_sorted w))

in_all_of : (lists : List Keys) (i : ℕ) (k : Priority) → i < length lists → set.contains (get_or lists i set.empty) k ≡ true →
    set.contains (all_of lists) k ≡ true
in_all_of [] i k within h = absurd (omega arith)
in_all_of (l ∷ lists) zero k within h =
    contains-union key_cmp_total l (all_of lists) k ∙ or_left (set.contains l k) (set.contains (all_of lists) k) h
in_all_of (l ∷ lists) (suc i) k within h =
    contains-union key_cmp_total l (all_of lists) k
    ∙ or_right (set.contains l k) (set.contains (all_of lists) k) (in_all_of lists i k (omega arith) h)

pub due_from : (w : Waiting) (t : ℕ) (k : Priority) → set.contains (due t w) k ≡ true → (s : ℕ) × (s ≤ t) × (set.contains (list_at w s) k ≡ true)
due_from w t k h =
    let es = fin.entries (until t w) in
    let m = some_list (fin.values (until t w)) k h in
    let lt : m.0 < length es = omega (arith, m.1, length-map es (λ e. e.1)) in
    let s = (get_or es m.0 (0, set.empty)).0 in
    let has : set.contains (get_or es m.0 (0, set.empty)).1 k ≡ true =
    sym (ap (λ l. set.contains l k) (get_or-map (λ e. e.1) es m.0 (0, set.empty) set.empty lt)) ∙ m.2 in
    let there : set.contains (list_at (until t w) s) k ≡ true =
    ap (λ x. set.contains (list_at x s) k) (sym (entries_again (until t w))) ∙ waits_from es m.0 k (true_of _ (entries_sorted (until t w))) lt has in
    let f = kept_from (leb s t) (fin.get w s) k (sym (ap (λ l. set.contains l k) (kept_keys w (λ x. leb x t) s)) ∙ there) in
    (s, leb-true s t f.0, f.1)

pub due_in : (w : Waiting) (t s : ℕ) (k : Priority) → s ≤ t → set.contains (list_at w s) k ≡ true → set.contains (due t w) k ≡ true
due_in w t s k early h =
    let es = fin.entries (until t w) in
    let there : set.contains (list_at (until t w) s) k ≡ true =
    ap (λ l. set.contains l k) (kept_keys w (λ x. leb x t) s) ∙ kept_in (leb s t) (fin.get w s) k (le-leb s t early) h in
    let m = waits_at es s k (true_of _ (entries_sorted (until t w))) (ap (λ x. set.contains (list_at x s) k) (entries_again (until t w)) ∙ there) in
    in_all_of (fin.values (until t w)) m.0 k (omega (arith, m.1, length-map es (λ e. e.1)))
    (ap (λ l. set.contains l k) (get_or-map (λ e. e.1) es m.0 (0, set.empty) set.empty m.1) ∙ m.3)
